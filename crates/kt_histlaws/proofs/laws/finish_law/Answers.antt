use Rattle.kt_histlaws.proofs.Jobs.{finish_shows}
use Rattle.kt_histlaws.proofs.laws.finish_law.Goals as goal

pub returns : goal.returns
returns c = finish_shows
