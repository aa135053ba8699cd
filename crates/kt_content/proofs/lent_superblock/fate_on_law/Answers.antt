use Rattle.kt_content.proofs.KeyLent.{fate_on}
use Rattle.kt_content.proofs.lent_superblock.fate_on_law.Goals as goal

pub returns : goal.returns
returns c = fate_on
