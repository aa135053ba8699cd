use Rattle.kt_histlaws.proofs.Shown.{alone_live}
use Rattle.kt_histlaws.proofs.laws.target_law.Goals as goal

pub returns : goal.returns
returns c = alone_live
