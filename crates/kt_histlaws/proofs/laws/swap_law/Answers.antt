use Rattle.kt_histlaws.proofs.Jobs.{swap_alike}
use Rattle.kt_histlaws.proofs.laws.swap_law.Goals as goal

pub returns : goal.returns
returns c = swap_alike
