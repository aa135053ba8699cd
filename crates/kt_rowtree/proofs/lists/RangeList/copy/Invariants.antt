use Rattle.std.proofs.Common.{◌≡◌, take}
use Rattle.kt_rowtree.proofs.lists.RangeList.copy.Given as goal

abbrev pub invariant-loop-range : goal.invariant-loop-range
invariant-loop-range l = l.copies.items ≡ take l.range-index l.ranges
