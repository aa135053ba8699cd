use Rattle.kt_content.proofs.LentParts.{at_once_is_recovered}
use Rattle.kt_content.proofs.crashes.at_once_law.Goals as goal

pub returns : goal.returns
returns c = at_once_is_recovered
