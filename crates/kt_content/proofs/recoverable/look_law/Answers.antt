use Rattle.kt_content.proofs.Keeping.{look_keeps}
use Rattle.kt_content.proofs.recoverable.look_law.Goals as goal

pub returns : goal.returns
returns c = look_keeps
