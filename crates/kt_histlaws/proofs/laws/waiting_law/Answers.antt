use Rattle.kt_histlaws.proofs.Shown.{in_order}
use Rattle.kt_histlaws.proofs.laws.waiting_law.Goals as goal

pub returns : goal.returns
returns c = in_order
