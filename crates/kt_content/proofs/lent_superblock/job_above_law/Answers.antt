use Rattle.kt_content.proofs.AboveFiles.{job_above}
use Rattle.kt_content.proofs.lent_superblock.job_above_law.Goals as goal

pub returns : goal.returns
returns c = job_above
