use Rattle.kt_loglaws.proofs.Sides.{crash_keeps}
use Rattle.kt_loglaws.proofs.laws.side_law.Goals as goal

pub returns : goal.returns
returns g c = crash_keeps _ g.L.Disk.seen
