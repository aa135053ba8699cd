use Rattle.std.proofs.Common.{◌≡◌, ◌≤◌, reverse, take, drop}
use Rattle.std.specs.Vec.{vec_capacity}
use Rattle.kt_rowtree.specs.Ranges.{holders_of}
use Rattle.kt_rowtree.proofs.search.collect.Given as goal

abbrev pub invariant-loop-at : goal.invariant-loop-at
invariant-loop-at l = record {
  back : l.at ≤ l.initial.at;
  found : l.out.items ≡ reverse (holders_of l.key (drop l.at (take l.initial.at l.ranges)));
  room : vec_capacity l.initial.out ≤ vec_capacity l.out;
}

abbrev pub decreases-loop-at : goal.decreases-loop-at
decreases-loop-at l = l.at
