use Rattle.kt_content.proofs.InMemory.{another_mirrors}
use Rattle.kt_content.proofs.memory.mirror_law.Goals as goal

pub returns : goal.returns
returns c = another_mirrors
