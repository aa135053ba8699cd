use Rattle.kt_joblaws.proofs.InMemory.{memory_passes}
use Rattle.kt_joblaws.proofs.laws.memory_law.Goals as goal

pub returns : goal.returns
returns c = memory_passes
