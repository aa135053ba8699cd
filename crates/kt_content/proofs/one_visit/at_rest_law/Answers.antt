use Rattle.kt_content.proofs.OneVisit.{at_rest_stands}
use Rattle.kt_content.proofs.one_visit.at_rest_law.Goals as goal

pub returns : goal.returns
returns c = at_rest_stands
