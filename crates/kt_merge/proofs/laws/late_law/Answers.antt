use Rattle.kt_merge.proofs.LateTold.{in_memory}
use Rattle.kt_merge.proofs.laws.late_law.Goals as goal

pub returns : goal.returns
returns c = in_memory
