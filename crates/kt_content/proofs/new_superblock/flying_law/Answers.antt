use Rattle.kt_content.proofs.Replacing.{flying_held}
use Rattle.kt_content.proofs.new_superblock.flying_law.Goals as goal

pub returns : goal.returns
returns c = flying_held
