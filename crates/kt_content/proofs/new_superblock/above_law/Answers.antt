use Rattle.kt_content.proofs.AboveFiles.{stay_above}
use Rattle.kt_content.proofs.new_superblock.above_law.Goals as goal

pub returns : goal.returns
returns c = stay_above
