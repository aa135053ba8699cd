-- A field that is read is the field that was written, and what was written is read again.
use Rattle.std.proofs.Common.{◌≡◌, ℕ, zero, suc, ◌+◌, ◌-◌, ◌^◌, ◌<◌, ◌≤◌, Bool, true, cond, List, [], ◌∷◌, ◌++◌, length, take, drop, Result, Ok, Err, refl, sym, ap, subst, ◌∙◌, append_assoc, arith, inl, inr}
use Rattle.std.specs.Prelude.{nat_le}
use Rattle.std.specs.Int.{w32, from_le_bytes}
use Rattle.std.proofs.lemmas.Bool.{cases_lt, leb-true}
use Rattle.std.proofs.lemmas.Bool.Decides.{nat_tests}
use Rattle.std.proofs.lemmas.List.{drop_at, take-append-drop, length-append, length-take, length-drop, get_or_append_left, get_or_past}
use Rattle.kt_bytes.specs.Reading.{◌>>=◌, number_at, checked_at, bytes_at}
use Rattle.kt_bytes.proofs.Numbers.{IsBytes, Takes, Takes-then, wide32, number_takes as takes_number, number_again as again_number, checked_takes, checked_again, bytes_takes, bytes_again, bind_ok, guard_ok, then_is, IsBytes-take}
use Rattle.kt_front.specs.Spelling.{shared, number, cell}
use Rattle.kt_front.specs.Walk.{begin_alike, is_shared, is_more, cell_at}
use Rattle.kt_front.proofs.Shared.{shared-le, shared_exact, shared_front, shared_apart}

-- ---- numbers

pub length-number : (n : ℕ) → length (number n) ≡ 4
unfolding number
length-number n = refl

-- both fields of a cell, and what it does not share
pub len_of_cell : (with item : List ℕ) → length (cell with item) ≡ 8 + (length item - shared with item)
unfolding cell
len_of_cell with item =
    let n : ℕ = shared with item in
    let m : ℕ = length item - n in
    omega (arith, length-append (number n ++ number m) (drop n item), length-append (number n) (number m), length-number n, length-number m, length-drop n item)

pub number_takes : (bytes : List ℕ) (x : ℕ × List ℕ) → IsBytes bytes → number_at w32 bytes ≡ Ok x → Takes bytes (number x.0) x.1 × (x.0 < 2 ^ 32)
unfolding number
number_takes bytes x fits e = takes_number w32 (2 ^ 32) wide32 bytes x fits e

pub shared_takes : (passes : ℕ → Bool) (bytes : List ℕ) (x : ℕ × List ℕ) → IsBytes bytes → checked_at w32 passes bytes ≡ Ok x → Takes bytes (number x.0) x.1 × (passes x.0 ≡ true) × (x.0 < 2 ^ 32)
unfolding number
shared_takes passes bytes x fits e = checked_takes w32 (2 ^ 32) wide32 passes bytes x fits e

pub number_again : (n : ℕ) (rest : List ℕ) → n < 2 ^ 32 → number_at w32 (number n ++ rest) ≡ Ok (n, rest)
unfolding number
number_again n rest lt = again_number w32 (2 ^ 32) wide32 n rest lt

pub shared_again : (passes : ℕ → Bool) (n : ℕ) (rest : List ℕ) → n < 2 ^ 32 → passes n ≡ true → checked_at w32 passes (number n ++ rest) ≡ Ok (n, rest)
unfolding number
shared_again passes n rest lt passed = checked_again w32 (2 ^ 32) wide32 passes n rest lt passed

-- two numbers that are spelled alike are one
pub number_one : (m n : ℕ) → m < 2 ^ 32 → n < 2 ^ 32 → number m ≡ number n → m ≡ n
unfolding number
number_one m n lt less e = sym (wide32.again m lt) ∙ ap (from_le_bytes w32) e ∙ wide32.again n less

-- ---- cells

cell_is : (with item : List ℕ) (n : ℕ) (rest : List ℕ) (m : ℕ) → shared with item ≡ n → length item - n ≡ m → drop n item ≡ rest → cell with item ≡ number n ++ (number m ++ rest)
unfolding cell
cell_is with item n rest m p q r =
    ap (λ (k : ℕ). number k ++ number (length item - k) ++ drop k item) p ∙ (ap (λ (k : ℕ). number n ++ number k ++ drop n item) q ∙ (ap (λ (t : List ℕ). number n ++ number m ++ t) r ∙ append_assoc (number n) (number m) rest))

pub upto_test : (a b : ℕ) → a ≤ b → nat_le a b ≡ true
upto_test a b h = grind (arith, nat_tests)

pub bytes_front : (xs rest : List ℕ) → IsBytes (xs ++ rest) → IsBytes xs
bytes_front xs rest h i =
    elim (cases_lt i (length xs)) [
      | inl lt ↦ rw (sym (get_or_append_left xs rest 0 i lt)) (h i)
      | inr le ↦ rw (get_or_past xs i 0 le) (omega arith)
    ]

pub bytes_both : (xs ys : List ℕ) → IsBytes xs → IsBytes ys → IsBytes (xs ++ ys)
bytes_both [] ys p q i = q i
bytes_both (x ∷ xs) ys p q zero = p 0
bytes_both (x ∷ xs) ys p q (suc i) = bytes_both xs ys (λ k. p (suc k)) q i

pub record TakesCell (most : ℕ) (with bytes : List ℕ) (x : List ℕ × List ℕ) : Type 0 where
  pub takes : Takes bytes (cell with x.0) x.1
  pub fits : length x.0 ≤ most
  pub bytes_fit : IsBytes with → IsBytes x.0

pub cell_takes : (most : ℕ) (with bytes : List ℕ) (x : List ℕ × List ℕ) → IsBytes bytes → cell_at most with bytes ≡ Ok x → TakesCell most with bytes x
unfolding cell_at
cell_takes most with bytes x fits e =
    let a = bind_ok (checked_at w32 (is_shared with) bytes) (λ n. checked_at w32 (is_more most n.0) n.1 >>= λ m. bytes_at m.0 m.1 >>= λ rest. cond (begin_alike (drop n.0 with) rest.0) (Err (length bytes)) (Ok (take n.0 with ++ rest.0, rest.1))) x e in
    let n = a.0 in
    let t0 = shared_takes (is_shared with) bytes n fits a.1 in
    let enough : n.0 ≤ length with = leb-true n.0 (length with) t0.1 in
    let b = bind_ok (checked_at w32 (is_more most n.0) n.1) (λ m. bytes_at m.0 m.1 >>= λ rest. cond (begin_alike (drop n.0 with) rest.0) (Err (length bytes)) (Ok (take n.0 with ++ rest.0, rest.1))) x a.2 in
    let m = b.0 in
    let t1 = shared_takes (is_more most n.0) n.1 m t0.0.rest_fits b.1 in
    let within : n.0 + m.0 ≤ most = leb-true (n.0 + m.0) most t1.1 in
    let c = bind_ok (bytes_at m.0 m.1) (λ rest. cond (begin_alike (drop n.0 with) rest.0) (Err (length bytes)) (Ok (take n.0 with ++ rest.0, rest.1))) x b.2 in
    let third = bytes_takes m.0 m.1 c.0 t1.0.rest_fits c.1 in
    let g = guard_ok (begin_alike (drop n.0 with) c.0.0) (length bytes) (take n.0 with ++ c.0.0, c.0.1) x c.2 in
    let rest : List ℕ = c.0.0 in
    let after : List ℕ = c.0.1 in
    let item : List ℕ = take n.0 with ++ rest in
    let exact : shared with item ≡ n.0 = shared_exact with n.0 rest enough g.0 in
    let front_len : length (take n.0 with) ≡ n.0 = omega (arith, length-take n.0 with) in
    let len : length item - n.0 ≡ m.0 = omega (arith, length-append (take n.0 with) rest, third.1) in
    let tail : drop n.0 item ≡ rest = drop_at (take n.0 with) rest n.0 front_len in
    let both = Takes-then n.1 (number m.0) m.1 rest after t1.0 third.0 in
    let all = Takes-then bytes (number n.0) n.1 (number m.0 ++ rest) after t0.0 both in
    let spelled : cell with item ≡ number n.0 ++ (number m.0 ++ rest) = cell_is with item n.0 rest m.0 exact len tail in
    subst (TakesCell most with bytes) g.1 (record {
      takes = subst (λ (t : List ℕ). Takes bytes t after) (sym spelled) all;
      fits = omega (arith, length-append (take n.0 with) rest, third.1);
      bytes_fit = λ w. bytes_both (take n.0 with) rest (IsBytes-take n.0 with w) (bytes_front rest after (subst IsBytes third.0.parts t1.0.rest_fits));
    })

pub cell_again : (most : ℕ) (with item rest : List ℕ) → most < 2 ^ 32 → length item ≤ most → cell_at most with (cell with item ++ rest) ≡ Ok (item, rest)
unfolding cell_at cell
cell_again most with item rest room fits =
    let n : ℕ = shared with item in
    let m : ℕ = length item - n in
    let tail : List ℕ = drop n item in
    let le = shared-le with item in
    let split : cell with item ++ rest ≡ number n ++ (number m ++ (tail ++ rest)) = append_assoc (number n ++ number m) tail rest ∙ append_assoc (number n) (number m) (tail ++ rest) in
    let len : length tail ≡ m = length-drop n item in
    let whole : take n with ++ tail ≡ item = ap (λ (t : List ℕ). t ++ tail) (shared_front with item) ∙ take-append-drop n item in
    let text : List ℕ = number n ++ (number m ++ (tail ++ rest)) in
    let end : List ℕ × List ℕ → Result (List ℕ × List ℕ) ℕ = λ y. cond (begin_alike (drop n with) y.0) (Err (length text)) (Ok (take n with ++ y.0, y.1)) in
    let third : bytes_at m (tail ++ rest) ≡ Ok (tail, rest) = subst (λ (k : ℕ). bytes_at k (tail ++ rest) ≡ Ok (tail, rest)) len (bytes_again tail rest) in
    ap (cell_at most with) split
    ∙ (then_is (checked_at w32 (is_shared with) text) (λ k. checked_at w32 (is_more most k.0) k.1 >>= λ j. bytes_at j.0 j.1 >>= λ y. cond (begin_alike (drop k.0 with) y.0) (Err (length text)) (Ok (take k.0 with ++ y.0, y.1))) (n, number m ++ (tail ++ rest)) (shared_again (is_shared with) n (number m ++ (tail ++ rest)) (omega (arith, le.1)) (upto_test n (length with) le.0))
    ∙ (then_is (checked_at w32 (is_more most n) (number m ++ (tail ++ rest))) (λ j. bytes_at j.0 j.1 >>= end) (m, tail ++ rest) (shared_again (is_more most n) m (tail ++ rest) (omega arith) (upto_test (n + m) most (omega (arith, le.1))))
    ∙ (then_is (bytes_at m (tail ++ rest)) end (tail, rest) third
    ∙ (ap (λ (b : Bool). cond b (Err (length text)) (Ok (take n with ++ tail, rest))) (shared_apart with item)
    ∙ ap (λ (t : List ℕ). Ok (t, rest)) whole))))
