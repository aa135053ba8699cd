use Rattle.kt_outputs.proofs.Named.{behind}
use Rattle.kt_outputs.proofs.laws.behind_law.Goals as goal

pub returns : goal.returns
returns c = behind
