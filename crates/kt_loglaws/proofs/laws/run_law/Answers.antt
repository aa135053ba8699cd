use Rattle.kt_loglaws.proofs.Fronts.{goes_on}
use Rattle.kt_loglaws.proofs.laws.run_law.Goals as goal

pub returns : goal.returns
returns c = goes_on
