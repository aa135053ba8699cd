use Rattle.kt_content.proofs.RunEvents.{name_more}
use Rattle.kt_content.proofs.run.name_more_law.Goals as goal

pub returns : goal.returns
returns c = name_more
