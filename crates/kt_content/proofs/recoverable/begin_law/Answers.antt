use Rattle.kt_content.proofs.Keeping.{begin_keeps}
use Rattle.kt_content.proofs.recoverable.begin_law.Goals as goal

pub returns : goal.returns
returns c = begin_keeps
