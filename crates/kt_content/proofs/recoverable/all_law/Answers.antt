use Rattle.kt_content.proofs.KeepingLent.{all_kept}
use Rattle.kt_content.proofs.recoverable.all_law.Goals as goal

pub returns : goal.returns
returns c = all_kept
