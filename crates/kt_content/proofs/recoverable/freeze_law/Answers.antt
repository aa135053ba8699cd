use Rattle.kt_content.proofs.StoresCome.{freeze_keeps}
use Rattle.kt_content.proofs.recoverable.freeze_law.Goals as goal

pub returns : goal.returns
returns c = freeze_keeps
