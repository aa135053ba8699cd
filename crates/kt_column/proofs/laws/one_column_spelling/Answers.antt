use Rattle.kt_column.proofs.Once.{column_spelled_once}
use Rattle.kt_column.proofs.laws.one_column_spelling.Goals as goal

pub returns : goal.returns
returns c = column_spelled_once
