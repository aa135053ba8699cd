use Rattle.kt_content.proofs.Replacing.{raised_is_shown}
use Rattle.kt_content.proofs.new_superblock.raised_shown_law.Goals as goal

pub returns : goal.returns
returns c = raised_is_shown
