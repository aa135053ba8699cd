use Rattle.kt_history.proofs.Effects.{outcomes}
use Rattle.kt_history.proofs.laws.outcome_law.Goals as goal

pub returns : goal.returns
returns c = outcomes
