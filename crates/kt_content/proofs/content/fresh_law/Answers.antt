use Rattle.kt_content.proofs.Fresh.{fresh_empty}
use Rattle.kt_content.proofs.content.fresh_law.Goals as goal

pub returns : goal.returns
returns c = fresh_empty
