use Rattle.kt_histlaws.proofs.Events.{end_stands}
use Rattle.kt_histlaws.proofs.laws.end_law.Goals as goal

pub returns : goal.returns
returns c = end_stands
