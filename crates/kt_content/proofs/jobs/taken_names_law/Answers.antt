use Rattle.kt_content.proofs.JobEvents.{taken_covered}
use Rattle.kt_content.proofs.jobs.taken_names_law.Goals as goal

pub returns : goal.returns
returns c = taken_covered
