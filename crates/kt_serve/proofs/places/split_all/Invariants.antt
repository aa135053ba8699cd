use Rattle.std.proofs.Common.{◌≡◌, ◌+◌, ℕ, vec_len, vec_capacity, slice_get, Some}
use Rattle.kt_seatlock.specs.Passes.{seen, part, joined, given, filled, IsOutside, IsSamePass}
use Rattle.kt_serve.specs.Places.{IsNew}
use Rattle.kt_serve.proofs.places.split_all.Given as goal

abbrev pub invariant-loop : goal.invariant-loop
invariant-loop g l = record {
  same : IsSamePass l.initial.pass l.pass;
  outside : IsOutside l.pass;
  given_is : given l.pass ≡ given l.initial.pass + l.counter;
  told : (seen l.pass ≡ seen l.initial.pass) × (part l.pass ≡ part l.initial.pass) × (joined l.pass ≡ joined l.initial.pass) × (filled l.pass ≡ filled l.initial.pass);
  count : vec_len l.places ≡ l.counter;
  room : vec_capacity l.places ≡ vec_capacity l.initial.places;
  each : (j : ℕ) (p : _) → slice_get l.places.items j ≡ Some p → IsNew l.lock (given l.initial.pass + j) (seen l.initial.pass) (filled l.initial.pass) p.pass;
}
