use Rattle.kt_joblaws.proofs.Compacted.{compacts_over}
use Rattle.kt_joblaws.proofs.laws.compact_law.Goals as goal

pub returns : goal.returns
returns c = compacts_over
