use Rattle.kt_histlaws.proofs.Events.{busy_stands}
use Rattle.kt_histlaws.proofs.laws.busy_law.Goals as goal

pub returns : goal.returns
returns c = busy_stands
