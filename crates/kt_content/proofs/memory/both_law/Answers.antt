use Rattle.kt_content.proofs.InMemory.{both_mirror}
use Rattle.kt_content.proofs.memory.both_law.Goals as goal

pub returns : goal.returns
returns c = both_mirror
