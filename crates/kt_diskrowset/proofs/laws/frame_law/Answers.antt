use Rattle.kt_diskrowset.proofs.Rowsets.{stays}
use Rattle.kt_diskrowset.proofs.laws.frame_law.Goals as goal

pub returns : goal.returns
returns c = stays
