use Rattle.kt_rowfiles.proofs.Ordered.{lead_back}
use Rattle.kt_rowfiles.proofs.laws.undo_law.Goals as goal

pub returns : goal.returns
returns c = lead_back
