use Rattle.kt_memrowset.proofs.Placed.{is_placed}
use Rattle.kt_memrowset.proofs.laws.placed_law.Goals as goal

pub returns : goal.returns
returns c = is_placed
