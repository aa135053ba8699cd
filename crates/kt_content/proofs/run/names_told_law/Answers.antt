use Rattle.kt_content.proofs.RunEvents.{names_told}
use Rattle.kt_content.proofs.run.names_told_law.Goals as goal

pub returns : goal.returns
returns c = names_told
