use Rattle.kt_content.proofs.StoreChanges.{duplicated_fits}
use Rattle.kt_content.proofs.memory.duplicated_law.Goals as goal

pub returns : goal.returns
returns c = duplicated_fits
