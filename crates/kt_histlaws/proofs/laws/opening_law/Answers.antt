use Rattle.kt_histlaws.proofs.Events.{open_stands}
use Rattle.kt_histlaws.proofs.laws.opening_law.Goals as goal

pub returns : goal.returns
returns c = open_stands
