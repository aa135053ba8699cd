-- Fewer things than places leave a place free.
use Rattle.std.proofs.Common.{◌≡◌, ℕ, zero, suc, ◌+◌, ◌<◌, Bool, true, false, ◌||◌, List, [], ◌∷◌, length, refl, sym, ap, ◌∙◌, arith, inl, inr}
use Rattle.std.specs.Prelude.{◌⊎◌}
use Rattle.std.specs.List.{list_any}
use Rattle.kt_bytes.proofs.Fronts.{no_bool}

either : (b : Bool) → (b ≡ true) ⊎ (b ≡ false)
either true = inl refl
either false = inr refl

neither : (a b : Bool) → (a || b) ≡ false → (a ≡ false) × (b ≡ false)
neither true b e = absurd cc
neither false b e = (refl, e)

no_left : (a b : Bool) → a ≡ false → b ≡ false → (a || b) ≡ false
no_left a b p q = ap (λ (x : Bool). x || b) p ∙ q

right_one : (a b : Bool) → a ≡ false → (a || b) ≡ true → b ≡ true
right_one a b p e = sym (ap (λ (x : Bool). x || b) p) ∙ e

-- takes x p: the thing stands at the place; no thing stands at two
module _ {X : Type 0} (takes : X → ℕ → Bool) (one : (x : X) (p q : ℕ) → takes x p ≡ true → takes x q ≡ true → p ≡ q) where
  abbrev taken : List X → ℕ → Bool
  taken xs p = list_any (λ x. takes x p) xs

  -- the things without the one at a place
  record Without (xs : List X) (p : ℕ) : Type 0 where
    rest : List X
    fewer : length rest + 1 ≡ length xs
    free : (q : ℕ) → (p ≡ q → ⊥) → taken rest q ≡ false → taken xs q ≡ false

  without : (xs : List X) (p : ℕ) → taken xs p ≡ true → Without xs p
  without [] p e = absurd (no_bool (taken [] p) refl e)
  without (x ∷ xs) p e = elim (either (takes x p)) [
    | inl here ↦ record {
      rest = xs;
      fewer = omega arith;
      free = λ q other none. no_left (takes x q) (taken xs q) (elim (either (takes x q)) [ inl too ↦ absurd (other (one x p q here too)) | inr not ↦ not ]) none;
    }
    | inr gone ↦
        let w = without xs p (right_one (takes x p) (taken xs p) gone e) in
        record {
          rest = x ∷ w.rest;
          fewer = omega (arith, w.fewer);
          free = λ q other none. let n = neither (takes x q) (taken w.rest q) none in no_left (takes x q) (taken xs q) n.0 (w.free q other n.1);
        }
  ]

  -- one of the places below n is free
  pub free_place : (n : ℕ) (xs : List X) → length xs < n → (p : ℕ) × (p < n) × (list_any (λ x. takes x p) xs ≡ false)
  free_place zero xs lt = absurd (omega (arith, lt))
  free_place (suc n) xs lt = elim (either (taken xs n)) [
    | inr free ↦ (n, omega arith, free)
    | inl full ↦
        let w = without xs n full in
        let p = free_place n w.rest (omega (arith, w.fewer, lt)) in
        (p.0, omega (arith, p.1), w.free p.0 (λ same. omega (arith, same, p.1)) p.2)
  ]
