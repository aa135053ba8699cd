use Rattle.kt_histlaws.proofs.Events.{rows_stands}
use Rattle.kt_histlaws.proofs.laws.rows_law.Goals as goal

pub returns : goal.returns
returns c = rows_stands
