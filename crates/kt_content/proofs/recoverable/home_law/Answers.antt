use Rattle.kt_content.proofs.KeepingLent.{home_recoverable}
use Rattle.kt_content.proofs.recoverable.home_law.Goals as goal

pub returns : goal.returns
returns c = home_recoverable
