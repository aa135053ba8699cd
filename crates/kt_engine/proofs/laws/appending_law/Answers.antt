use Rattle.kt_engine.proofs.Moments.{appends_recover}
use Rattle.kt_engine.proofs.laws.appending_law.Goals as goal

pub returns : goal.returns
returns g c = appends_recover g.L.Disk.tells g.L.Disk.seen g.L.Disk.now g.L.Disk.leaves g.D.Disk.tells g.D.Disk.seen
