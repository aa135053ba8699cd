use Rattle.kt_content.proofs.Successors.{same_rest}
use Rattle.kt_content.proofs.new_superblock.rest_law.Goals as goal

pub returns : goal.returns
returns c = same_rest
