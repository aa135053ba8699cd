use Rattle.kt_content.proofs.KeyLent.{key_lent}
use Rattle.kt_content.proofs.lent_superblock.key_lent_law.Goals as goal

pub returns : goal.returns
returns c = key_lent
