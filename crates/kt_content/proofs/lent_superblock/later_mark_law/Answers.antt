use Rattle.kt_content.proofs.LaterMark.{later_mark_stands}
use Rattle.kt_content.proofs.lent_superblock.later_mark_law.Goals as goal

pub returns : goal.returns
returns c = later_mark_stands
