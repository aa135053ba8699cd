use Rattle.kt_content.proofs.RunEvents.{names_end}
use Rattle.kt_content.proofs.run.names_end_law.Goals as goal

pub returns : goal.returns
returns c = names_end
