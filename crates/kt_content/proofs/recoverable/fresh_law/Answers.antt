use Rattle.kt_content.proofs.StoresCome.{fresh_stands}
use Rattle.kt_content.proofs.recoverable.fresh_law.Goals as goal

pub returns : goal.returns
returns c = fresh_stands
