use Rattle.kt_content.proofs.JobEvents.{others_leave}
use Rattle.kt_content.proofs.jobs.job_others_law.Goals as goal

pub returns : goal.returns
returns c = others_leave
