use Rattle.std.proofs.Common.{◌≡◌, take}
use Rattle.std.specs.List.{filter}
use Rattle.kt_dup.specs.Missed.{is_missed, picked, AreInside}
use Rattle.kt_dup.proofs.missed.missed_places.Given as goal

abbrev pub invariant-changes : goal.invariant-changes
invariant-changes g l = record {
  picked : picked l.changes l.places.items ≡ filter (is_missed l.bound (g.O.RowStore.store l.output l.pool)) (take l.at l.changes);
  inside : AreInside l.changes l.places.items;
}
