use Rattle.std.proofs.Common.{◌≡◌, ◌+◌, ◌-◌, ◌≤◌, length, max}
use Rattle.std.specs.Vec.{vec_capacity}
use Rattle.kt_pool.specs.Sound.{IsSound, places_in, padded}
use Rattle.kt_pool.proofs.cells.lengthen.Given as goal

abbrev pub invariant-loop-made : goal.invariant-loop-made
invariant-loop-made l = record {
  from : l.spare ≤ l._made;
  to : l._made ≤ max l.spare l.count;
  sound : IsSound l.cells.items l.at l._made;
  places : places_in l.cells.items ≡ padded (places_in l.initial.cells.items) (l._made - l.spare);
  count : length l.cells.items ≡ length l.initial.cells.items + (l._made - l.spare);
  room : vec_capacity l.cells ≡ vec_capacity l.initial.cells;
}
