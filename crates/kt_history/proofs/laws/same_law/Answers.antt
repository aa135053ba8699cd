use Rattle.kt_history.proofs.SamePasts.{never_apart}
use Rattle.kt_history.proofs.laws.same_law.Goals as goal

pub returns : goal.returns
returns c = never_apart
