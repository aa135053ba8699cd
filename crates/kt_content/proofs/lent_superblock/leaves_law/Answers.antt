use Rattle.kt_content.proofs.NamesTell.{leaves_tell}
use Rattle.kt_content.proofs.lent_superblock.leaves_law.Goals as goal

pub returns : goal.returns
returns c = leaves_tell
