use Rattle.kt_content.proofs.JobEvents.{another_leaves}
use Rattle.kt_content.proofs.jobs.job_super_law.Goals as goal

pub returns : goal.returns
returns c = another_leaves
