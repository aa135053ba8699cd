use Rattle.kt_content.proofs.Publishing.{carries_over}
use Rattle.kt_content.proofs.new_superblock.one_step_law.Goals as goal

pub returns : goal.returns
returns c = carries_over
