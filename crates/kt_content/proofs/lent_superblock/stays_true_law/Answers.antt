use Rattle.kt_content.proofs.KeyLent.{stays_true}
use Rattle.kt_content.proofs.lent_superblock.stays_true_law.Goals as goal

pub returns : goal.returns
returns c = stays_true
