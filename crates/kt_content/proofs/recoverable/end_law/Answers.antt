use Rattle.kt_content.proofs.Ends.{end_keeps}
use Rattle.kt_content.proofs.recoverable.end_law.Goals as goal

pub returns : goal.returns
returns c = end_keeps
