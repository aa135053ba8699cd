use Rattle.kt_content.proofs.KeepingLent.{lent_recoverable}
use Rattle.kt_content.proofs.recoverable.both_law.Goals as goal

pub returns : goal.returns
returns c = lent_recoverable
