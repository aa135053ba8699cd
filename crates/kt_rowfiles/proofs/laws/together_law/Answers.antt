use Rattle.kt_rowfiles.proofs.Places.{together}
use Rattle.kt_rowfiles.proofs.laws.together_law.Goals as goal

pub returns : goal.returns
returns c = together
