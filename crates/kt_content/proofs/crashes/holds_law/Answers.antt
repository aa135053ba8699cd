use Rattle.kt_content.proofs.LentParts.{same_is_recovered}
use Rattle.kt_content.proofs.crashes.holds_law.Goals as goal

pub returns : goal.returns
returns c = same_is_recovered
