-- The least place that passes a test.
use Rattle.std.proofs.Common.{◌≡◌, ℕ, zero, suc, ◌<◌, ◌≤◌, Bool, true, false, cond, List, length, get_or, Option, Some, None, ◌⊎◌, inl, inr, refl, sym, ap, ◌∙◌, arith}
use Rattle.std.specs.List.{slice_get}
use Rattle.std.specs.Option.{option_or, option_map_or}
use Rattle.std.proofs.lemmas.Option.{slice_get_read, slice_get_past}
use Rattle.kt_schema.specs.First.{first, passes_at}

pub first-none : (p : ℕ → Bool) (n : ℕ) → ((k : ℕ) → k < n → p k ≡ false) → first p n ≡ None
first-none p zero none = refl
first-none p (suc n) none =
    let before : first p n ≡ None = first-none p n (λ k h. none k (omega arith)) in
    let here : p n ≡ false = none n (omega arith) in
    rw (before, here)

below_or_here : (i n : ℕ) → i < suc n → (i < n) ⊎ (i ≡ n)
below_or_here i n h = grind arith

pub first-found : (p : ℕ → Bool) (n i : ℕ) → i < n → p i ≡ true → ((k : ℕ) → k < i → p k ≡ false) → first p n ≡ Some i
first-found p zero i lt is none = absurd (omega (arith, lt))
first-found p (suc n) i lt is none = elim (below_or_here i n lt) [
  | inl h ↦ let before : first p n ≡ Some i = first-found p n i h is none in rw before
  | inr e ↦ at_end e
]
  where
    at_end : i ≡ n → first p (suc n) ≡ Some i
    at_end e =
        let before : first p n ≡ None = first-none p n (λ k h. none k (omega arith)) in
        let here : p n ≡ true = ap p (sym e) ∙ is in
        rw (before, here) (ap Some (sym e))

none_left : (o p : Option ℕ) → option_or o p ≡ None → (o ≡ None) × (p ≡ None)
none_left None p h = (refl, h)
none_left (Some x) p h = absurd cc

no_some : (b : Bool) (n : ℕ) → cond b (Some n) None ≡ None → b ≡ false
no_some true n h = absurd cc
no_some false n h = refl

-- where none is first, none passes
pub none_passes : (p : ℕ → Bool) (n : ℕ) → first p n ≡ None → (k : ℕ) → k < n → p k ≡ false
none_passes p zero none k h = absurd (omega (arith, h))
none_passes p (suc n) none k h = elim (below_or_here k n h) [
  | inl lt ↦ none_passes p n (none_left _ _ none).0 k lt
  | inr e ↦ ap p e ∙ no_some (p n) n (none_left _ _ none).1
]

pub passes_at-here : {A : Type 0} (p : A → Bool) (xs : List A) (k : ℕ) (x : A) → k < length xs → x ≡ get_or xs k x → passes_at p xs k ≡ p x
passes_at-here p xs k x within is = ap (λ o. option_map_or p o false) (slice_get_read xs (length xs) k x refl within is)

pub passes_at-past : {A : Type 0} (p : A → Bool) (xs : List A) (k : ℕ) → length xs ≤ k → passes_at p xs k ≡ false
passes_at-past p xs k past = ap (λ o. option_map_or p o false) (slice_get_past xs k past)

-- a test of what stands at one place of two lists
pub pair-here : {A B : Type 0} (f : Option A → Option B → Bool) (xs : List A) (ys : List B) (k : ℕ) (x : A) (y : B)
    → k < length xs → x ≡ get_or xs k x → k < length ys → y ≡ get_or ys k y → f (slice_get xs k) (slice_get ys k) ≡ f (Some x) (Some y)
pair-here f xs ys k x y in-xs x-is in-ys y-is =
    ap (λ o. f o (slice_get ys k)) (slice_get_read xs (length xs) k x refl in-xs x-is) ∙ ap (λ o. f (Some x) o) (slice_get_read ys (length ys) k y refl in-ys y-is)
