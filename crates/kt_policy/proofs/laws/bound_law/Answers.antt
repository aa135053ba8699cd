use Rattle.kt_policy.proofs.Bounds.{gain_offered}
use Rattle.kt_policy.proofs.laws.bound_law.Goals as goal

pub returns : goal.returns
returns c = gain_offered
