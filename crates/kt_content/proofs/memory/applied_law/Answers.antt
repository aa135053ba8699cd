use Rattle.kt_content.proofs.Applying.{applied_mirrors}
use Rattle.kt_content.proofs.memory.applied_law.Goals as goal

pub returns : goal.returns
returns c = applied_mirrors
