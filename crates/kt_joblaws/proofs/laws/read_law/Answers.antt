use Rattle.kt_joblaws.proofs.Read.{no_fault}
use Rattle.kt_joblaws.proofs.laws.read_law.Goals as goal

pub returns : goal.returns
returns c = no_fault
