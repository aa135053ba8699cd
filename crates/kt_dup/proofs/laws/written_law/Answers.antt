use Rattle.kt_dup.proofs.Split.{written_splits}
use Rattle.kt_dup.proofs.laws.written_law.Goals as goal

pub returns : goal.returns
returns c = written_splits
