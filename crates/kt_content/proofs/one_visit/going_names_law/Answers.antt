use Rattle.kt_content.proofs.OneVisit.{all_go_on}
use Rattle.kt_content.proofs.one_visit.going_names_law.Goals as goal

pub returns : goal.returns
returns c = all_go_on
