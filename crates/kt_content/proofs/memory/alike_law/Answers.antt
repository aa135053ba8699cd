use Rattle.kt_content.proofs.InMemory.{alike_through}
use Rattle.kt_content.proofs.memory.alike_law.Goals as goal

pub returns : goal.returns
returns c = alike_through
