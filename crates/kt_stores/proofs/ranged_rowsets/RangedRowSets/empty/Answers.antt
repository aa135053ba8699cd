use Rattle.std.proofs.Common.{arith}
use Rattle.kt_stores.proofs.Ranged.{ranged_none}
use Rattle.kt_stores.proofs.ranged_rowsets.RangedRowSets.empty.Goals as goal

pub invariant_of-result : goal.invariant_of-result
invariant_of-result g c = (ranged_none g.R.FileStore.files c.new.result.items c.empty.result c.new.ensures.items c.empty.ensures.ranges, omega (arith, c.empty.ensures.room))
