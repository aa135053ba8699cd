use Rattle.kt_histlaws.proofs.Parts.{parts_stay}
use Rattle.kt_histlaws.proofs.laws.part_law.Goals as goal

pub returns : goal.returns
returns c = parts_stay
