use Rattle.kt_content.proofs.StoreChanges.{live_has_change}
use Rattle.kt_content.proofs.memory.live_change_law.Goals as goal

pub returns : goal.returns
returns c = live_has_change
