use Rattle.std.proofs.Common.{◌≡◌, ◌≤◌, length, map, take}
use Rattle.std.specs.Vec.{vec_capacity}
use Rattle.kt_rowtree.specs.Ranges.{end_at}
use Rattle.kt_rowtree.specs.declared.lists.Range.{Range}
use Rattle.kt_rowtree.proofs.stack.list_places.Given as goal

abbrev pub invariant-loop-place : goal.invariant-loop-place
invariant-loop-place l = record {
  all : map (end_at l.ranges) l.places.items ≡ map (λ (r : Range). r.greatest) (take l.place l.ranges);
  long : length l.places.items ≡ l.place;
  room : vec_capacity l.fn.places ≤ vec_capacity l.places;
}
