-- Things with numbers of their own, all below a bound: they are no more than the bound, and while they are fewer a number
-- is free.
use Rattle.std.proofs.Common.{◌≡◌, ℕ, ◌<◌, ◌≤◌, Bool, true, false, ◌||◌, eqb, List, [], ◌∷◌, ◌++◌, length, map, refl, sym, ap, subst, ◌∙◌, arith, inl, inr}
use Rattle.std.specs.Prelude.{◌⊎◌}
use Rattle.std.specs.List.{list_any, IsDistinct}
use Rattle.std.proofs.lemmas.Bool.{eqb-true}
use Rattle.std.proofs.lemmas.Cmp.{nat_eq_equiv}
use Rattle.std.proofs.lemmas.List.{length-map, map_push}
use Rattle.std.proofs.lemmas.List.Folds.{list_any-append}
use Rattle.std.proofs.lemmas.Map.Keys.{IsDistinct-push}
use Rattle.std.proofs.lemmas.Map.Steps.{length-le_from_distinct_below}
use Rattle.kt_bytes.proofs.Free.{free_place}

swap : (a b : ℕ) → eqb a b ≡ eqb b a
swap a b = nat_eq_equiv.symm a b

abbrev pub taken : {X : Type 0} → (X → ℕ) → List X → ℕ → Bool
taken number xs n = list_any (λ x. eqb (number x) n) xs

pub record Apart {X : Type 0} (number : X → ℕ) (bound : ℕ) (xs : List X) : Type 0 where
  pub distinct : IsDistinct eqb (map number xs)
  pub below : (q : ℕ) → list_any (eqb q) (map number xs) ≡ true → q < bound

among : {X : Type 0} (number : X → ℕ) (xs : List X) (q : ℕ) → list_any (eqb q) (map number xs) ≡ taken number xs q
among number [] q = refl
among number (x ∷ xs) q = ap (λ (b : Bool). b || list_any (eqb q) (map number xs)) (swap q (number x)) ∙ ap (λ (b : Bool). eqb (number x) q || b) (among number xs q)

or_false : (a b : Bool) → (a || b) ≡ true → (a ≡ true) ⊎ (b ≡ true)
or_false true b e = inl refl
or_false false b e = inr e

one_true : (b : Bool) → (b || false) ≡ true → b ≡ true
one_true true e = refl
one_true false e = absurd cc

pub none_apart : {X : Type 0} (number : X → ℕ) (bound : ℕ) → Apart number bound []
unfolding IsDistinct
none_apart number bound = record { distinct = tt; below = λ q e. absurd cc }

pub push_apart : {X : Type 0} (number : X → ℕ) (bound : ℕ) (xs : List X) (x : X) → Apart number bound xs → number x < bound → taken number xs (number x) ≡ false → Apart number bound (xs ++ x ∷ [])
push_apart number bound xs x a lt free = record {
  distinct = subst (IsDistinct eqb) (sym (map_push number xs x)) (IsDistinct-push nat_eq_equiv (map number xs) (number x) a.distinct (among number xs (number x) ∙ free));
  below = λ q e. elim (or_false (list_any (eqb q) (map number xs)) (eqb q (number x) || false) (sym (list_any-append (eqb q) (map number xs) (number x ∷ [])) ∙ sym (ap (list_any (eqb q)) (map_push number xs x)) ∙ e)) [
    | inl earlier ↦ a.below q earlier
    | inr last ↦ subst (λ (k : ℕ). k < bound) (sym (eqb-true q (number x) (one_true (eqb q (number x)) last))) lt
  ];
}

pub few_apart : {X : Type 0} (number : X → ℕ) (bound : ℕ) (xs : List X) → Apart number bound xs → length xs ≤ bound
few_apart number bound xs a = omega (arith, length-le_from_distinct_below (map number xs) bound a.distinct a.below, length-map xs number)

-- where there are fewer, a number is free
pub free_number : {X : Type 0} (number : X → ℕ) (bound : ℕ) (xs : List X) → length xs < bound → (n : ℕ) × (n < bound) × (taken number xs n ≡ false)
free_number number bound xs lt = free_place (λ x n. eqb (number x) n) (λ x p q e f. sym (eqb-true (number x) p e) ∙ eqb-true (number x) q f) bound xs lt
