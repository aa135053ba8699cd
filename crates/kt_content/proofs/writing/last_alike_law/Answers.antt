use Rattle.kt_content.proofs.BelowTheMark.{from_last_change}
use Rattle.kt_content.proofs.writing.last_alike_law.Goals as goal

pub returns : goal.returns
returns c = from_last_change
