-- What is left of a list in another order.
use Rattle.std.proofs.Common.{◌≡◌, ℕ, zero, suc, ◌<◌, Bool, true, false, cond, List, [], ◌∷◌, ◌++◌, map, length, get_or, arith}
use Rattle.std.specs.Prelude.{not, set, ◌==◌}
use Rattle.std.specs.List.{filter, list_any, swap}
use Rattle.std.specs.List.Sorted.{IsPermutation}
use Rattle.std.proofs.lemmas.List.Sorted.{IsPermutation-cons, IsPermutation-keeps, IsPermutation-map, IsPermutation-middle, IsPermutation-refl, IsPermutation-trans}
use Rattle.kt_rowtree.specs.Ranges.{closed, closed_up, without}
use Rattle.kt_rowtree.specs.declared.lists.Range.{Range}

module _ {X : Type 0} (p : X → Bool) where
  -- one more in front of both
  kept : (x : X) (xs ys : List X) → IsPermutation (filter p xs) (filter p ys) → IsPermutation (filter p (x ∷ xs)) (filter p (x ∷ ys))
  kept x xs ys h = by (p x)
    where
      by : (a : Bool) → IsPermutation (cond a (x ∷ filter p xs) (filter p xs)) (cond a (x ∷ filter p ys) (filter p ys))
      by true = IsPermutation-cons x (filter p xs) (filter p ys) h
      by false = h

  -- the first two exchanged
  two : (x y : X) (xs : List X) → IsPermutation (filter p (x ∷ y ∷ xs)) (filter p (y ∷ x ∷ xs))
  two x y xs = by (p x) (p y)
    where
      by : (a b : Bool) → IsPermutation (cond a (x ∷ cond b (y ∷ filter p xs) (filter p xs)) (cond b (y ∷ filter p xs) (filter p xs))) (cond b (y ∷ cond a (x ∷ filter p xs) (filter p xs)) (cond a (x ∷ filter p xs) (filter p xs)))
      by true true = IsPermutation-middle (x ∷ []) y (filter p xs)
      by true false = IsPermutation-refl (x ∷ filter p xs)
      by false true = IsPermutation-refl (y ∷ filter p xs)
      by false false = IsPermutation-refl (filter p xs)

  -- the first exchanged with another
  front : (d x : X) (xs : List X) (j : ℕ) → j < length xs → IsPermutation (filter p (x ∷ xs)) (filter p (get_or xs j d ∷ set xs j x))
  front d x [] j low = absurd (omega arith)
  front d x (y ∷ xs) zero low = two x y xs
  front d x (y ∷ xs) (suc j) low =
      IsPermutation-trans (filter p (x ∷ y ∷ xs)) (filter p (y ∷ x ∷ xs)) (filter p (get_or xs j d ∷ y ∷ set xs j x)) (two x y xs)
      (IsPermutation-trans (filter p (y ∷ x ∷ xs)) (filter p (y ∷ get_or xs j d ∷ set xs j x)) (filter p (get_or xs j d ∷ y ∷ set xs j x)) (kept y (x ∷ xs) (get_or xs j d ∷ set xs j x) (front d x xs j (omega arith))) (two y (get_or xs j d) (set xs j x)))

  exchanged : (d : X) (xs : List X) (i j : ℕ) → i < length xs → j < length xs → IsPermutation (filter p xs) (filter p (set (set xs i (get_or xs j d)) j (get_or xs i d)))
  exchanged d [] i j low high = absurd (omega arith)
  exchanged d (x ∷ xs) zero zero low high = IsPermutation-refl (filter p (x ∷ xs))
  exchanged d (x ∷ xs) zero (suc j) low high = front d x xs j (omega arith)
  exchanged d (x ∷ xs) (suc i) zero low high = front d x xs i (omega arith)
  exchanged d (x ∷ xs) (suc i) (suc j) low high = kept x xs (set (set xs i (get_or xs j d)) j (get_or xs i d)) (exchanged d xs i j (omega arith) (omega arith))

  swapped : (xs : List X) (i j : ℕ) → i < length xs → j < length xs → IsPermutation (filter p xs) (filter p (swap xs i j))
  swapped [] i j low high = absurd (omega arith)
  swapped (d ∷ xs) i j low high = exchanged d (d ∷ xs) i j low high

  -- what passes a test, in the other order
  pub filtered : (xs ys : List X) → IsPermutation xs ys → IsPermutation (filter p xs) (filter p ys)
  filtered xs ys h =
      IsPermutation-keeps xs (λ l. IsPermutation (filter p xs) (filter p l)) (IsPermutation-refl (filter p xs)) (λ l i j low high so_far. IsPermutation-trans (filter p xs) (filter p l) (filter p (swap l i j)) so_far (swapped l i j low high)) ys h

-- ranges in another order close up to the same in another order
pub closed_up-permutation : (out : List ℕ) (xs ys : List Range) → IsPermutation xs ys → IsPermutation (closed_up out xs) (closed_up out ys)
closed_up-permutation out xs ys h =
    IsPermutation-map (closed out) (without out xs) (without out ys) (filtered (λ (r : Range). not (list_any (λ n. n == r.rowset) out)) xs ys h)
