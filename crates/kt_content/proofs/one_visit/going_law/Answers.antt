use Rattle.kt_content.proofs.OneVisit.{goes_over}
use Rattle.kt_content.proofs.one_visit.going_law.Goals as goal

pub returns : goal.returns
returns c = goes_over
