-- Tests that go over a list, one element after the other.
use Rattle.std.proofs.Common.{◌≡◌, ◌≤◌, ◌<◌, ◌+◌, ℕ, List, [], ◌∷◌, ◌++◌, drop, length, get_or, sym, subst, inl, inr, arith}
use Rattle.std.proofs.lemmas.Bool.{cases_lt}
use Rattle.std.proofs.lemmas.List.{drop_all}
use Rattle.kt_history.specs.declared.changes.Delta.{Delta}
use Rattle.kt_history.specs.Stores.{Steps, Under}
use Rattle.kt_histlaws.specs.Fitting.{Rises}
use Rattle.kt_rowfiles.specs.Reading.{steps_in}
use Rattle.kt_rowfiles.proofs.Ordered.{rest_is}

-- what holds of the rest, and of the element before it
pub in_turn : {X : Type 0} (P : List X → Type 0) (xs : List X) (i : ℕ) (x : X) (Whole : Type 0) → i < length xs → x ≡ get_or xs i x → ((rest : List X) → P rest → P (x ∷ rest)) → (P (drop i xs) → Whole) → P (drop (i + 1) xs) → Whole
in_turn P xs i x Whole low is more whole rest = whole (subst P (sym (rest_is xs i x low is)) (more (drop (i + 1) xs) rest))

pub at_end : {X : Type 0} (P : List X → Type 0) (xs : List X) (i : ℕ) (Whole : Type 0) → length xs ≤ i → P [] → (P (drop i xs) → Whole) → Whole
at_end P xs i Whole past none whole = whole (subst P (sym (drop_all i xs past)) none)

pub rises_on : (xs : List Delta) (i : ℕ) (x : Delta) (low : ℕ) (Whole : Type 0) → i < length xs → x ≡ get_or xs i x → low < x.ts → (Rises low (steps_in (drop i xs)) → Whole) → Rises x.ts (steps_in (drop (i + 1) xs)) → Whole
rises_on xs i x low Whole less is up whole rest = whole (subst (λ l. Rises low (steps_in l)) (sym (rest_is xs i x less is)) (up, rest))

pub under_both : (ts : ℕ) (xs ys : Steps) → Under ts xs → Under ts ys → Under ts (xs ++ ys)
under_both ts [] ys h k = k
under_both ts (x ∷ xs) ys h k = (h.0, under_both ts xs ys h.1 k)

-- what holds of each number below one, and of this
pub each_below : (P : ℕ → Type 0) (k : ℕ) → ((n : ℕ) → n < k → P n) → P k → (n : ℕ) → n < k + 1 → P n
each_below P k all here n low = elim (cases_lt n k) [
  | inl lt ↦ all n lt
  | inr ge ↦ subst P (let e : k ≡ n = omega (arith, low, ge) in e) here
]
