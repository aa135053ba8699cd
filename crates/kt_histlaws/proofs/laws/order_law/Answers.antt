use Rattle.kt_histlaws.proofs.Jobs.{shows_first}
use Rattle.kt_histlaws.proofs.laws.order_law.Goals as goal

pub returns : goal.returns
returns c = shows_first
