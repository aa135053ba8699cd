use Rattle.kt_content.proofs.RunEvents.{fresh_number}
use Rattle.kt_content.proofs.run.fresh_number_law.Goals as goal

pub returns : goal.returns
returns c = fresh_number
