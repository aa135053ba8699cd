use Rattle.kt_column.proofs.Once.{column_once}
use Rattle.kt_column.proofs.laws.one_column.Goals as goal

pub returns : goal.returns
returns c = column_once
