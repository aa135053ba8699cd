use Rattle.kt_content.proofs.RunEvents.{applied_done}
use Rattle.kt_content.proofs.run.applied_done_law.Goals as goal

pub returns : goal.returns
returns c = applied_done
