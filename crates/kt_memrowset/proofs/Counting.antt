-- How often cells are in a list.
use Rattle.std.proofs.Common.{◌≡◌, ◌≢◌, ℕ, zero, suc, ◌+◌, ◌<◌, ◌≤◌, inl, inr, cond, List, [], ◌∷◌, ◌++◌, length, refl, arith}
use Rattle.std.specs.Prelude.{◌==◌}
use Rattle.std.proofs.lemmas.Bool.{cases_eq}
use Rattle.kt_tree.proofs.Places.{one_same, one_other}
use Rattle.kt_memrowset.specs.Links.{times}

pub times-append : (xs ys : List ℕ) (k : ℕ) → times (xs ++ ys) k ≡ times xs k + times ys k
times-append [] ys k = omega arith
times-append (x ∷ xs) ys k = let e = times-append xs ys k in omega arith

pub times_first : (x : ℕ) (xs : List ℕ) → 1 ≤ times (x ∷ xs) x
times_first x xs = let e = one_same x x refl in omega arith

pub times_one : (x : ℕ) → times (x ∷ []) x ≡ 1
times_one x = let e = one_same x x refl in omega arith

pub times_other : (x k : ℕ) → x ≢ k → times (x ∷ []) k ≡ 0
times_other x k ne = let e = one_other x k ne in omega arith

-- ---- a list of different cells below n has at most n of them

abbrev total : (ℕ → ℕ) → ℕ → ℕ
total f zero = 0
total f (suc n) = total f n + f n

total_small : (f : ℕ → ℕ) (n : ℕ) → ((k : ℕ) → f k ≤ 1) → total f n ≤ n
total_small f zero h = omega arith
total_small f (suc n) h = let a = total_small f n h in let b = h n in omega arith

total_sum : (f g : ℕ → ℕ) (n : ℕ) → total (λ k. f k + g k) n ≡ total f n + total g n
total_sum f g zero = refl
total_sum f g (suc n) = let a = total_sum f g n in omega arith

abbrev one : ℕ → ℕ → ℕ
one a k = cond (a == k) 1 0

total_none : (a n : ℕ) → n ≤ a → total (one a) n ≡ 0
total_none a zero low = refl
total_none a (suc n) low = let b = total_none a n (omega arith) in let c = one_other a n (omega arith) in omega arith

total_one : (a n : ℕ) → a < n → total (one a) n ≡ 1
total_one a zero low = absurd (omega arith)
total_one a (suc n) low = elim (cases_eq a n) [
  | inl same ↦ let b = total_none a n (omega arith) in let c = one_same a n same in omega arith
  | inr other ↦ let b = total_one a n (omega arith) in let c = one_other a n other in omega arith
]

total_zero : (n : ℕ) → total (λ _. 0) n ≡ 0
total_zero zero = refl
total_zero (suc n) = let a = total_zero n in omega arith

total_times : (xs : List ℕ) (n : ℕ) → ((k : ℕ) → 0 < times xs k → k < n) → total (times xs) n ≡ length xs
total_times [] n h = total_zero n
total_times (x ∷ xs) n h =
    let a = total_times xs n (λ k low. h k (omega arith)) in
    let f = times_first x xs in
    let b = total_one x n (h x (omega arith)) in
    let c = total_sum (one x) (times xs) n in
    omega arith

pub few : (xs : List ℕ) (n : ℕ) → ((k : ℕ) → times xs k ≤ 1) → ((k : ℕ) → 0 < times xs k → k < n) → length xs ≤ n
few xs n once below = let a = total_times xs n below in let b = total_small (times xs) n once in omega arith
