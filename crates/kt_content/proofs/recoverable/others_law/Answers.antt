use Rattle.kt_content.proofs.StoresCome.{others_keep}
use Rattle.kt_content.proofs.recoverable.others_law.Goals as goal

pub returns : goal.returns
returns c = others_keep
