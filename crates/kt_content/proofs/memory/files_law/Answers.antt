use Rattle.kt_content.proofs.StoreChanges.{files_and_changes}
use Rattle.kt_content.proofs.memory.files_law.Goals as goal

pub returns : goal.returns
returns c = files_and_changes
