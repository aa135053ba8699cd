use Rattle.kt_content.proofs.MissedChanges.{swap_duplicates}
use Rattle.kt_content.proofs.jobs.swap_law.Goals as goal

pub returns : goal.returns
returns c = swap_duplicates
