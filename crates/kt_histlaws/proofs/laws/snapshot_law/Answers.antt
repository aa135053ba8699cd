use Rattle.kt_histlaws.proofs.Shown.{snapshot_told}
use Rattle.kt_histlaws.proofs.laws.snapshot_law.Goals as goal

pub returns : goal.returns
returns c = snapshot_told
