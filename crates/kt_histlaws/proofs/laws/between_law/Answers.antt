use Rattle.kt_histlaws.proofs.Jobs.{filled_push}
use Rattle.kt_histlaws.proofs.laws.between_law.Goals as goal

pub returns : goal.returns
returns c = filled_push
