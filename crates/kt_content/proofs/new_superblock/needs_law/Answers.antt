use Rattle.kt_content.proofs.Successors.{same_needs}
use Rattle.kt_content.proofs.new_superblock.needs_law.Goals as goal

pub returns : goal.returns
returns c = same_needs
