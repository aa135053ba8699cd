use Rattle.kt_content.proofs.KeyLent.{job_lent}
use Rattle.kt_content.proofs.lent_superblock.job_lent_law.Goals as goal

pub returns : goal.returns
returns c = job_lent
