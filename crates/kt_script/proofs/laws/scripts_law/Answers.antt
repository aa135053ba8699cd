use Rattle.kt_script.proofs.Spelling.{scripts_are_fit, plans_of_loads}
use Rattle.kt_script.proofs.laws.scripts_law.Goals as goal

pub returns : goal.returns
returns c = record { fit = scripts_are_fit; loads = plans_of_loads }
