use Rattle.kt_content.proofs.MissedChanges.{put_in}
use Rattle.kt_content.proofs.jobs.missed_law.Goals as goal

pub returns : goal.returns
returns c = put_in
