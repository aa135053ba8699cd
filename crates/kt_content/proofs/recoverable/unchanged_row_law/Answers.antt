use Rattle.kt_content.proofs.Keeping.{row_without_keeps}
use Rattle.kt_content.proofs.recoverable.unchanged_row_law.Goals as goal

pub returns : goal.returns
returns c = row_without_keeps
