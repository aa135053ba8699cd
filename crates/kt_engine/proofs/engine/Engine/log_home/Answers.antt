use Rattle.std.proofs.Common.{sym}
use Rattle.kt_engine.proofs.Devices.{comes_home}
use Rattle.kt_engine.proofs.Stored.{home_stored}
use Rattle.kt_engine.proofs.engine.Engine.log_home.Goals as goal

pub invariant_of-self : goal.invariant_of-self
invariant_of-self g c =
    let old = sym c.self.view_is in (
      comes_home g.L.Disk.tells g.L.Disk.seen g.L.Disk.now g.L.Disk.leaves g.L.Disk.faults _ c.log_home.new.self c.args.batch.journal c.args.number c.self.invariant.0 (rw old at c.requires.out) (rw old at c.requires.count) (rw old at c.requires.reads) c.requires.opens (rw old at c.requires.others) (rw old at c.requires.faults) (rw c.deref_mut.ensures.value at c.log_home.ensures.home),
      home_stored g.L.Disk.tells g.L.Disk.seen g.D.Disk.tells g.D.Disk.seen g.D.Disk.faults _ c.self.invariant.1 c.log_home.new.self c.args.batch.journal (rw old at c.requires.count) (rw old at c.requires.reads) (rw c.deref_mut.ensures.value at c.log_home.ensures.home),
    )
