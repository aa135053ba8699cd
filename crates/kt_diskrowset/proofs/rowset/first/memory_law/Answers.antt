use Rattle.kt_diskrowset.proofs.Firsts.{in_memory}
use Rattle.kt_diskrowset.proofs.rowset.first.memory_law.Goals as goal

pub returns : goal.returns
returns c = in_memory
