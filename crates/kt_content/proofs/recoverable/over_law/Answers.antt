use Rattle.kt_content.proofs.KeepingLent.{stands_over}
use Rattle.kt_content.proofs.recoverable.over_law.Goals as goal

pub returns : goal.returns
returns c = stands_over
