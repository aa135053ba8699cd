use Rattle.kt_outputs.proofs.Named.{stand}
use Rattle.kt_outputs.proofs.laws.stand_law.Goals as goal

pub returns : goal.returns
returns c = stand
