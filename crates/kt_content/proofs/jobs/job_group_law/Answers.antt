use Rattle.kt_content.proofs.JobEvents.{joins_one}
use Rattle.kt_content.proofs.jobs.job_group_law.Goals as goal

pub returns : goal.returns
returns c = joins_one
