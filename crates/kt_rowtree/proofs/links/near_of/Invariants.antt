use Rattle.std.proofs.Common.{◌≤◌}
use Rattle.kt_rowtree.specs.Ranges.{EndsLast}
use Rattle.kt_rowtree.proofs.links.near_of.Given as goal

abbrev pub invariant-loop-low : goal.invariant-loop-low
invariant-loop-low l = record { back : l.low ≤ l.at; last : EndsLast l.ranges l.low l.at }

abbrev pub decreases-loop-low : goal.decreases-loop-low
decreases-loop-low l = l.low
