use Rattle.kt_histlaws.proofs.Shown.{at_most_one}
use Rattle.kt_histlaws.proofs.laws.live_law.Goals as goal

pub returns : goal.returns
returns c = at_most_one
