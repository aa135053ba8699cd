use Rattle.kt_content.proofs.NamesTell.{needed_tells}
use Rattle.kt_content.proofs.lent_superblock.needed_law.Goals as goal

pub returns : goal.returns
returns c = needed_tells
