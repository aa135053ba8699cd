use Rattle.kt_content.proofs.Replacing.{each_key_held}
use Rattle.kt_content.proofs.new_superblock.each_key_law.Goals as goal

pub returns : goal.returns
returns c = each_key_held
