use Rattle.kt_histlaws.proofs.Applied.{apply_stands}
use Rattle.kt_histlaws.proofs.laws.apply_law.Goals as goal

pub returns : goal.returns
returns c = apply_stands
