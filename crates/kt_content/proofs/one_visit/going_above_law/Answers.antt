use Rattle.kt_content.proofs.OneVisit.{going_above}
use Rattle.kt_content.proofs.one_visit.going_above_law.Goals as goal

pub returns : goal.returns
returns c = going_above
