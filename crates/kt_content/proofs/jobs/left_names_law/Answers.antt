use Rattle.kt_content.proofs.JobEvents.{left_apart}
use Rattle.kt_content.proofs.jobs.left_names_law.Goals as goal

pub returns : goal.returns
returns c = left_apart
