use Rattle.kt_content.proofs.RunEvents.{told_is_true}
use Rattle.kt_content.proofs.run.told_true_law.Goals as goal

pub returns : goal.returns
returns c = told_is_true
