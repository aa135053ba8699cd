use Rattle.kt_content.proofs.StoresCome.{in_no_group}
use Rattle.kt_content.proofs.recoverable.no_group_law.Goals as goal

pub returns : goal.returns
returns c = in_no_group
