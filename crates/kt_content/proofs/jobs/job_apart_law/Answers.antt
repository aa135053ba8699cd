use Rattle.kt_content.proofs.JobEvents.{operation_apart}
use Rattle.kt_content.proofs.jobs.job_apart_law.Goals as goal

pub returns : goal.returns
returns c = operation_apart
