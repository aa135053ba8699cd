use Rattle.kt_dup.proofs.Between.{told_by_split}
use Rattle.kt_dup.proofs.laws.missed_law.Goals as goal

pub returns : goal.returns
returns c = told_by_split
