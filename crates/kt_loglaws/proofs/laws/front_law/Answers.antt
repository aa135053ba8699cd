use Rattle.kt_loglaws.proofs.Fronts.{fronts_hold}
use Rattle.kt_loglaws.proofs.laws.front_law.Goals as goal

pub returns : goal.returns
returns c = fronts_hold
