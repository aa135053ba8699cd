use Rattle.kt_dup.proofs.Split.{input_misses}
use Rattle.kt_dup.proofs.laws.input_law.Goals as goal

pub returns : goal.returns
returns c = input_misses
