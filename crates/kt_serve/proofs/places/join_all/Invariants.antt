use Rattle.std.proofs.Common.{◌≡◌, ◌+◌, ◌++◌, ◌≤◌, map, length, vec_len, vec_capacity}
use Rattle.std.specs.Vec.Iter.{into_iter_items}
use Rattle.kt_seatlock.specs.Passes.{part, joined, given, filled, IsOutside, IsSamePass}
use Rattle.kt_serve.specs.Places.{AreBack, taken}
use Rattle.kt_serve.proofs.places.join_all.Given as goal

abbrev pub invariant-loop-place : goal.invariant-loop-place
invariant-loop-place g l = record {
  can_next : (goal.iterator-loop-place g).can_next l.place-iterator;
  is_finite : (goal.iterator-loop-place g).is_finite l.place-iterator;
  same : IsSamePass l.initial.pass l.pass;
  outside : IsOutside l.pass;
  part_is : part l.pass ≡ part l.initial.pass;
  gives : (given l.pass ≡ given l.initial.pass) × (filled l.pass ≡ filled l.initial.pass);
  back : AreBack l.lock (into_iter_items l.place-iterator);
  joined_are : taken (into_iter_items l.place-iterator) (joined l.pass) ≡ taken l.fn.places.items (joined l.initial.pass);
  count : length (joined l.pass) + length (into_iter_items l.place-iterator) ≡ length (joined l.initial.pass) + length l.fn.places.items;
  room : vec_len l.ends + length (into_iter_items l.place-iterator) ≤ vec_capacity l.ends;
  ends : l.ends.items ++ map (λ p. p.end) (into_iter_items l.place-iterator) ≡ map (λ p. p.end) l.fn.places.items;
}
