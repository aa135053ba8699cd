use Rattle.kt_content.proofs.JobEvents.{operation_more}
use Rattle.kt_content.proofs.jobs.job_operation_law.Goals as goal

pub returns : goal.returns
returns c = operation_more
