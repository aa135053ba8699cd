use Rattle.kt_content.proofs.JobEvents.{both_doubled}
use Rattle.kt_content.proofs.jobs.both_names_law.Goals as goal

pub returns : goal.returns
returns c = both_doubled
