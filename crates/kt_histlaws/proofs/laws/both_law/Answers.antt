use Rattle.kt_histlaws.proofs.Jobs.{both_alike}
use Rattle.kt_histlaws.proofs.laws.both_law.Goals as goal

pub returns : goal.returns
returns c = both_alike
