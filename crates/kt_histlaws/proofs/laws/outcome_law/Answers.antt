use Rattle.kt_histlaws.proofs.Applied.{outcome_told}
use Rattle.kt_histlaws.proofs.laws.outcome_law.Goals as goal

pub returns : goal.returns
returns c = outcome_told
