use Rattle.kt_histlaws.proofs.Events.{stop_stands}
use Rattle.kt_histlaws.proofs.laws.stop_law.Goals as goal

pub returns : goal.returns
returns c = stop_stands
