use Rattle.kt_content.proofs.Lending.{duplicates}
use Rattle.kt_content.proofs.lent_superblock.duplicates_law.Goals as goal

pub returns : goal.returns
returns c = duplicates
