use Rattle.kt_content.proofs.Keeping.{row_applied_keeps}
use Rattle.kt_content.proofs.recoverable.row_law.Goals as goal

pub returns : goal.returns
returns c = row_applied_keeps
