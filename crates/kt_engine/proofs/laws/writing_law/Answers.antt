use Rattle.kt_engine.proofs.Moments.{writes_leave_either}
use Rattle.kt_engine.proofs.laws.writing_law.Goals as goal

pub returns : goal.returns
returns g c = writes_leave_either g.D.Disk.tells g.D.Disk.seen g.D.Disk.now g.D.Disk.leaves g.D.Disk.faults
