use Rattle.kt_content.proofs.Opened.{opened_stands}
use Rattle.kt_content.proofs.recoverable.opened_law.Goals as goal

pub returns : goal.returns
returns c = opened_stands
