use Rattle.std.proofs.Common.{sym, arith}
use Rattle.std.proofs.lemmas.Grind.{common_steps}
use Rattle.kt_loglaws.proofs.Appended.{queues}
use Rattle.kt_loglaws.proofs.side.LogSide.push.Goals as goal

pub invariant_of-self : goal.invariant_of-self
invariant_of-self g c =
    let old = sym c.self.view_is in (
      grind (arith, common_steps),
      queues g.L.Disk.tells g.L.Disk.seen g.L.Disk.now g.L.Disk.leaves _ _ _ _ _ c.self.inside.queue.items c.push_reserved.new.self.items c.args.entry c.push_reserved.ensures.items (rw old at c.requires.of_logged) c.self.invariant.1,
    )
