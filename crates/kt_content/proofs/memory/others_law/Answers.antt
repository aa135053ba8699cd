use Rattle.kt_content.proofs.StoreChanges.{rest_ends}
use Rattle.kt_content.proofs.memory.others_law.Goals as goal

pub returns : goal.returns
returns c = rest_ends
