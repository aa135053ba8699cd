use Rattle.std.proofs.Common.{◌≡◌, ◌≤◌, length}
use Rattle.std.specs.Vec.{vec_capacity}
use Rattle.kt_rowtree.specs.Ranges.{AreLinks}
use Rattle.kt_rowtree.proofs.links.list_links.Given as goal

abbrev pub invariant-loop-at : goal.invariant-loop-at
invariant-loop-at l = record {
  links : AreLinks l.ranges l.links.items;
  all : length l.links.items ≡ l.at;
  room : vec_capacity l.fn.links ≤ vec_capacity l.links;
}
