use Rattle.kt_content.proofs.RunEvents.{begin_not_done}
use Rattle.kt_content.proofs.run.begin_pending_law.Goals as goal

pub returns : goal.returns
returns c = begin_not_done
