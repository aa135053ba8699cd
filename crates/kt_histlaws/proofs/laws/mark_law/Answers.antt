use Rattle.kt_histlaws.proofs.Events.{mark_stands}
use Rattle.kt_histlaws.proofs.laws.mark_law.Goals as goal

pub returns : goal.returns
returns c = mark_stands
