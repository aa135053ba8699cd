use Rattle.kt_histlaws.proofs.Events.{begin_stands}
use Rattle.kt_histlaws.proofs.laws.begin_law.Goals as goal

pub returns : goal.returns
returns c = begin_stands
