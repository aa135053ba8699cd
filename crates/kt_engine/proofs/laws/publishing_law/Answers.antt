use Rattle.kt_engine.proofs.Moments.{publishes_leave_either, either_recovers}
use Rattle.kt_engine.proofs.laws.publishing_law.Goals as goal

pub returns-clause-either : goal.returns-clause-either
returns-clause-either g c = publishes_leave_either g.D.Disk.tells g.D.Disk.seen g.D.Disk.now g.D.Disk.leaves g.D.Disk.faults

pub returns-clause-recovers : goal.returns-clause-recovers
returns-clause-recovers g c = either_recovers g.L.Disk.tells g.L.Disk.seen g.D.Disk.tells g.D.Disk.seen g.D.Disk.now g.D.Disk.leaves
