use Rattle.kt_dup.proofs.Split.{both_keep}
use Rattle.kt_dup.proofs.laws.both_law.Goals as goal

pub returns : goal.returns
returns c = both_keep
