use Rattle.kt_histlaws.proofs.Events.{chore_stands}
use Rattle.kt_histlaws.proofs.laws.chore_law.Goals as goal

pub returns : goal.returns
returns c = chore_stands
