use Rattle.kt_joblaws.proofs.Passing.{they_pass}
use Rattle.kt_joblaws.proofs.laws.outputs_pass_law.Goals as goal

pub returns : goal.returns
returns c = they_pass
