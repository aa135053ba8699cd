use Rattle.kt_dup.proofs.Split.{put_in_splits}
use Rattle.kt_dup.proofs.laws.put_in_law.Goals as goal

pub returns : goal.returns
returns c = put_in_splits
