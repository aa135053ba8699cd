use Rattle.kt_history.proofs.RowLaws.{rows_at-raise}
use Rattle.kt_history.proofs.laws.raise_law.Goals as goal

pub returns : goal.returns
returns c = rows_at-raise
