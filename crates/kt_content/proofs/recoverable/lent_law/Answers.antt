use Rattle.kt_content.proofs.KeepingLent.{lent_stands}
use Rattle.kt_content.proofs.recoverable.lent_law.Goals as goal

pub returns : goal.returns
returns c = lent_stands
