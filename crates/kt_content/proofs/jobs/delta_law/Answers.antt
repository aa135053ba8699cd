use Rattle.kt_content.proofs.DeltaJobs.{delta_over}
use Rattle.kt_content.proofs.jobs.delta_law.Goals as goal

pub returns : goal.returns
returns c = delta_over
