use Rattle.kt_content.proofs.MissedChanges.{file_has}
use Rattle.kt_content.proofs.jobs.missed_file_law.Goals as goal

pub returns : goal.returns
returns c = file_has
