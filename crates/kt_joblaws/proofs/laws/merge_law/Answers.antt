use Rattle.kt_joblaws.proofs.Merged.{none_at_fault}
use Rattle.kt_joblaws.proofs.laws.merge_law.Goals as goal

pub returns : goal.returns
returns c = none_at_fault
