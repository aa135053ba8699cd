use Rattle.kt_content.proofs.Applying.{unchanged_mirrors}
use Rattle.kt_content.proofs.memory.unchanged_law.Goals as goal

pub returns : goal.returns
returns c = unchanged_mirrors
