use Rattle.kt_content.proofs.StoresCome.{alike_keep}
use Rattle.kt_content.proofs.recoverable.alike_law.Goals as goal

pub returns : goal.returns
returns c = alike_keep
