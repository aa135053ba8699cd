use Rattle.kt_content.proofs.LentParts.{lent_is_recovered}
use Rattle.kt_content.proofs.crashes.lent_law.Goals as goal

pub returns : goal.returns
returns c = lent_is_recovered
