use Rattle.kt_content.proofs.Lending.{goes_over}
use Rattle.kt_content.proofs.lent_superblock.over_law.Goals as goal

pub returns : goal.returns
returns c = goes_over
