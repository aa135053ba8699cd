use Rattle.kt_merge.proofs.FoldedRowsets.{folded_same}
use Rattle.kt_merge.proofs.laws.folded_law.Goals as goal

pub returns : goal.returns
returns c = folded_same
