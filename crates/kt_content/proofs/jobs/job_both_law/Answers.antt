use Rattle.kt_content.proofs.JobEvents.{row_of_both}
use Rattle.kt_content.proofs.jobs.job_both_law.Goals as goal

pub returns : goal.returns
returns c = row_of_both
