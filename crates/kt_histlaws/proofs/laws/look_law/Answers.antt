use Rattle.kt_histlaws.proofs.Events.{look_stands}
use Rattle.kt_histlaws.proofs.laws.look_law.Goals as goal

pub returns : goal.returns
returns c = look_stands
