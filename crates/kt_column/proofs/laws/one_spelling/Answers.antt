use Rattle.kt_column.proofs.Heads.{spelled_once}
use Rattle.kt_column.proofs.laws.one_spelling.Goals as goal

pub returns : goal.returns
returns c = spelled_once
