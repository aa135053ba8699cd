use Rattle.std.proofs.Common.{sym, arith}
use Rattle.std.proofs.lemmas.Grind.{common_steps}
use Rattle.kt_loglaws.proofs.Appended.{comes_back}
use Rattle.kt_loglaws.proofs.side.LogSide.log_back.Goals as goal

pub invariant_of-self : goal.invariant_of-self
invariant_of-self g c =
    let old = sym c.self.view_is in (
      grind (arith, common_steps),
      rw c.settle.ensures
          (comes_back g.L.Disk.tells g.L.Disk.seen g.L.Disk.now g.L.Disk.leaves _ _ _ _ _ _ c.self.inside.by c.args.number c.args.batch.journal c.rotate_left.new.self.items (rw old at c.requires.out) (rw old at c.requires.whole) (rw old at c.requires.journal) (grind (arith, common_steps)) c.self.invariant.1),
    )
