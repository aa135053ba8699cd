-- The first element of a list that passes a test, and the list without it.
use Rattle.std.proofs.Common.{◌≡◌, ℕ, zero, suc, ◌<◌, ◌+◌, ◌||◌, List, [], ◌∷◌, Some, None, Bool, true, false, cond, not, length, get_or, sym, ap, ◌∙◌, arith}
use Rattle.std.specs.List.{filter, find, list_any, position, position_or_len, remove}
use Rattle.std.specs.Prelude.{nat_lt}
use Rattle.std.proofs.lemmas.Bool.Decides.{nat_tests}
use Rattle.std.proofs.lemmas.Option.{cond_some}
use Rattle.std.proofs.lemmas.List.Quantifiers.{position-Some}

find_first : {X : Type 0} (p : X → Bool) (xs : List X) (k : ℕ) (x : X) → k < length xs → x ≡ get_or xs k x → p (get_or xs k x) ≡ true → ((j : ℕ) → j < k → p (get_or xs j x) ≡ false) → find p xs ≡ Some x
find_first p [] k x lt is here before = absurd (omega (arith, lt))
find_first p (y ∷ ys) zero x lt is here before = ap (λ b. cond b (Some y) (find p ys)) here ∙ ap Some (sym is)
find_first p (y ∷ ys) (suc k) x lt is here before =
    ap (λ b. cond b (Some y) (find p ys)) (before 0 (omega arith))
    ∙ find_first p ys k x (omega (arith, lt)) is here (λ j less. before (suc j) (omega (arith, less)))

-- what stands at the first place is what is found
pub found_first : {X : Type 0} (p : X → Bool) (xs : List X) (k : ℕ) (x : X) → position p xs ≡ Some k → x ≡ get_or xs k x → find p xs ≡ Some x
found_first p xs k x at is = let h = position-Some p xs k x at in find_first p xs k x h.0 is h.1 h.2

filter_removed : {X : Type 0} (q : X → Bool) (xs : List X) (k : ℕ) (d : X) → k < length xs → q (get_or xs k d) ≡ false → filter q (remove xs k) ≡ filter q xs
filter_removed q [] k d lt here = absurd (omega (arith, lt))
filter_removed q (y ∷ ys) zero d lt here = sym (ap (λ b. cond b (y ∷ filter q ys) (filter q ys)) here)
filter_removed q (y ∷ ys) (suc k) d lt here = ap (λ zs. cond (q y) (y ∷ zs) zs) (filter_removed q ys k d (omega (arith, lt)) here)

-- those that do not pass are the same without it
pub others_stay : {X : Type 0} (p : X → Bool) (xs : List X) (k : ℕ) (d : X) → position p xs ≡ Some k → filter (λ x. not (p x)) (remove xs k) ≡ filter (λ x. not (p x)) xs
others_stay p xs k d at = let h = position-Some p xs k d at in filter_removed (λ x. not (p x)) xs k d h.0 (ap not h.1)

-- the first place is one of the list
pub place_within : {X : Type 0} (p : X → Bool) (xs : List X) (k : ℕ) → position p xs ≡ Some k → k < length xs
place_within p xs k at = let h = cond_some (nat_lt (position_or_len p xs) (length xs)) (position_or_len p xs) k at in grind (arith, nat_tests)

any_within : {X : Type 0} (p : X → Bool) (xs : List X) → list_any p xs ≡ true → position_or_len p xs < length xs
any_within p [] any = cc
any_within p (y ∷ ys) any = elim (p y) as (λ b. (b || list_any p ys) ≡ true → cond (not b) (1 + position_or_len p ys) 0 < length (y ∷ ys)) [
  | true ↦ λ h. omega arith
  | false ↦ λ h. let lt = any_within p ys h in omega (arith, lt)
] any

some_none : (n : ℕ) → Some n ≡ None → ⊥
some_none n e = cc

-- where one passes, there is a first that does
pub not_missing : {X : Type 0} (p : X → Bool) (xs : List X) → list_any p xs ≡ true → position p xs ≡ None → ⊥
not_missing p xs any none =
    let lt = any_within p xs any in
    let is : nat_lt (position_or_len p xs) (length xs) ≡ true = grind (arith, nat_tests) in
    some_none (position_or_len p xs) (sym (ap (λ b. cond b (Some (position_or_len p xs)) None) is) ∙ none)

pub same_found : {X : Type 0} (x y : X) → Some x ≡ Some y → x ≡ y
same_found x y e = cc
