use Rattle.kt_dup.proofs.Split.{none_missed_alike}
use Rattle.kt_dup.proofs.laws.alike_law.Goals as goal

pub returns : goal.returns
returns c = none_missed_alike
