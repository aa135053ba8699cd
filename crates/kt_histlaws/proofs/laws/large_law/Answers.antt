use Rattle.kt_histlaws.proofs.Events.{large_stands}
use Rattle.kt_histlaws.proofs.laws.large_law.Goals as goal

pub returns : goal.returns
returns c = large_stands
