use Rattle.kt_content.proofs.InMemory.{unnamed_mirrors}
use Rattle.kt_content.proofs.memory.unnamed_law.Goals as goal

pub returns : goal.returns
returns c = unnamed_mirrors
