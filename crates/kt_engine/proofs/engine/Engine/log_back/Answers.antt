use Rattle.std.proofs.Common.{sym}
use Rattle.kt_engine.proofs.Devices.{comes_back}
use Rattle.kt_engine.proofs.Stored.{back_stored}
use Rattle.kt_engine.proofs.engine.Engine.log_back.Goals as goal

pub invariant_of-self : goal.invariant_of-self
invariant_of-self g c =
    let old = sym c.self.view_is in (
      comes_back g.L.Disk.tells g.L.Disk.seen g.L.Disk.now g.L.Disk.leaves g.L.Disk.faults _ c.log_back.new.self c.args.batch.journal c.args.number c.self.invariant.0 (rw old at c.requires.out) (rw old at c.requires.journal) c.requires.opens (rw c.deref_mut.ensures.value at c.log_back.ensures),
      back_stored g.L.Disk.tells g.L.Disk.seen g.D.Disk.tells g.D.Disk.seen g.D.Disk.faults _ c.self.invariant.1 c.log_back.new.self c.args.batch.journal (rw c.deref_mut.ensures.value at c.log_back.ensures),
    )
