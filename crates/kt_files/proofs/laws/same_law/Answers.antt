use Rattle.std.proofs.Common.{sym}
use Rattle.kt_files.proofs.SameFiles.{holds_on}
use Rattle.kt_files.proofs.laws.same_law.Goals as goal

pub returns : goal.returns
returns c = λ files others rowsets some named. holds_on files others rowsets some (λ n among. sym (named n among))
