use Rattle.kt_content.proofs.MissedChanges.{change_leaves}
use Rattle.kt_content.proofs.jobs.between_law.Goals as goal

pub returns : goal.returns
returns c = change_leaves
