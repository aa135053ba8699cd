use Rattle.std.proofs.Common.{◌≡◌, take, map, None}
use Rattle.std.specs.Vec.{vec_len, vec_capacity}
use Rattle.kt_tablet.proofs.turns.place_all.Given as goal

abbrev pub invariant-loop : goal.invariant-loop
invariant-loop l = record {
  items : l.places.items ≡ map (λ _. record { next = 1; look = None }) (take l.index l.plan);
  len : vec_len l.places ≡ l.index;
  room : vec_capacity l.places ≡ vec_capacity l.initial.places;
}
