use Rattle.kt_seatlock.proofs.Trails.{own_follows}
use Rattle.kt_seatlock.proofs.laws.own_law.Goals as goal

pub returns : goal.returns
returns g c = own_follows g.T.Shared.owner
