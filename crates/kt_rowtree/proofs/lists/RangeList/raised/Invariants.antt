use Rattle.std.proofs.Common.{◌≡◌, ◌++◌, map, take, drop}
use Rattle.kt_rowtree.specs.Ranges.{raised}
use Rattle.kt_rowtree.proofs.lists.RangeList.raised.Given as goal

abbrev pub invariant-loop-range : goal.invariant-loop-range
invariant-loop-range l = l.range-items ≡ map (raised l.more) (take l.range-index l.initial.range-items) ++ drop l.range-index l.initial.range-items
