use Rattle.kt_histlaws.proofs.Events.{ancient_stands}
use Rattle.kt_histlaws.proofs.laws.ancient_law.Goals as goal

pub returns : goal.returns
returns c = ancient_stands
