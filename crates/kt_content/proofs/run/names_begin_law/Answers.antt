use Rattle.kt_content.proofs.RunEvents.{names_begin}
use Rattle.kt_content.proofs.run.names_begin_law.Goals as goal

pub returns : goal.returns
returns c = names_begin
