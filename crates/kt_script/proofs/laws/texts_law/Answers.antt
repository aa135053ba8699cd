use Rattle.kt_script.proofs.Outputs.{read_alike}
use Rattle.kt_script.proofs.laws.texts_law.Goals as goal

pub returns : goal.returns
returns c = read_alike
