use Rattle.kt_diskrowset.proofs.Rowsets.{is_placed}
use Rattle.kt_diskrowset.proofs.laws.placed_law.Goals as goal

pub returns : goal.returns
returns c = is_placed
