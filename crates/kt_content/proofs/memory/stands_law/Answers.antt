use Rattle.kt_content.proofs.StoreChanges.{move_stands}
use Rattle.kt_content.proofs.memory.stands_law.Goals as goal

pub returns : goal.returns
returns c = move_stands
