use Rattle.kt_merge.proofs.Merged.{merged_same}
use Rattle.kt_merge.proofs.laws.merge_law.Goals as goal

pub returns : goal.returns
returns c = merged_same
