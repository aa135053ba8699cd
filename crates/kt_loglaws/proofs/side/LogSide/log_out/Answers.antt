use Rattle.std.proofs.Common.{◌∙◌, sym, arith}
use Rattle.std.proofs.lemmas.Grind.{common_steps}
use Rattle.kt_loglaws.proofs.Appended.{goes_out}
use Rattle.kt_loglaws.proofs.side.LogSide.log_out.Goals as goal

pub invariant_of-self-2 : goal.invariant_of-self-2
invariant_of-self-2 g c =
    let old = sym c.self.view_is in (
      grind (arith, common_steps),
      rw c.in-Some.ensures.after
          (goes_out g.L.Disk.tells g.L.Disk.seen g.L.Disk.now g.L.Disk.leaves _ _ _ _ _ c.self.inside.queue.items c.in-Some.journal c.of.result.value c.of-2.result.value c.take_all.new.queue.items (sym c.in-Some.ensures.value) (rw old at c.requires.whole) c.of.ensures (c.of-2.ensures ∙ c.in_ok-records.ensures.taken) c.in_ok-records.ensures.queue.0 c.self.invariant.1),
    )
