-- How keys begin, and their order.
use Rattle.std.proofs.Common.{◌≡◌, ◌≢◌, ℕ, zero, suc, ◌+◌, ◌*◌, ◌^◌, ◌<◌, ◌≤◌, inl, inr, List, [], ◌∷◌, slice_index, take, drop, refl, sym, ap, ◌∙◌, arith}
use Rattle.std.specs.Ordering.{nat_cmp, ordering_then}
use Rattle.std.specs.declared.cmp.Ordering.TheVariants.{Less, Equal, Greater}
use Rattle.std.specs.Cmp.Lexicographic.{slice_cmp}
use Rattle.std.proofs.Math.Nat.{add-mul, mul-le-mul_right}
use Rattle.std.proofs.lemmas.Bool.{cases_lt, cases_eq}
use Rattle.std.proofs.lemmas.Bool.Decides.{nat_tests}
use Rattle.byteorder.specs.Endian.{big_from}
use Rattle.byteorder.specs.Numbers.{big_from-cons, big_from-lt}
use Rattle.kt_tree.specs.Entries.{order}
use Rattle.kt_tree.specs.Shapes.{head_of, AreBytes}
use Rattle.std.proofs.lemmas.List.{get_or-drop, get_or-take}
use Rattle.kt_tree.specs.declared.node.Head.{Head}
use Rattle.kt_tree.proofs.Orders.{greater_is}

no_bytes : (i n : ℕ) → big_from i n [] ≡ 0
no_bytes i zero = refl
no_bytes i (suc n) = let e = no_bytes (suc i) n in omega arith

less_is : (x y : ℕ) → x < y → nat_cmp x y ≡ Less
less_is x y h = grind (arith, nat_tests)

same_is : (x y : ℕ) → x ≡ y → nat_cmp x y ≡ Equal
same_is x y h = grind (arith, nat_tests)

-- keys whose first bytes make a lesser number come first
pub before : (n : ℕ) (a b : List ℕ) → AreBytes a → AreBytes b → big_from 0 n a < big_from 0 n b → order a b ≡ Less
before zero a b p q h = absurd (omega arith)
before (suc n) [] [] p q h = absurd (omega arith)
before (suc n) [] (y ∷ ys) p q h = refl
before (suc n) (x ∷ xs) [] p q h = let e = no_bytes 0 (suc n) in absurd (omega arith)
before (suc n) (x ∷ xs) (y ∷ ys) p q h =
    let a = big_from-cons 0 n x xs in
    let b = big_from-cons 0 n y ys in
    let small : big_from 0 n ys < 256 ^ n = big_from-lt 0 n ys (λ i. q (suc i)) in
    elim (cases_lt x y) [
      | inl less ↦ ap (λ o. ordering_then o (slice_cmp nat_cmp xs ys)) (less_is x y less)
      | inr more ↦ elim (cases_eq x y) [
        | inl same ↦
            let e : x * 256 ^ n ≡ y * 256 ^ n = ap (λ z. z * 256 ^ n) same in
            ap (λ o. ordering_then o (slice_cmp nat_cmp xs ys)) (same_is x y same) ∙ before n xs ys (λ i. p (suc i)) (λ i. q (suc i)) (omega arith)
        | inr other ↦
            let over : (y + 1) * 256 ^ n ≤ x * 256 ^ n = mul-le-mul_right (256 ^ n) (omega arith) in
            let split : (y + 1) * 256 ^ n ≡ y * 256 ^ n + 1 * 256 ^ n = add-mul y 1 (256 ^ n) in
            absurd (omega arith)
      ]
    ]

eight : (a : List ℕ) → big_from 0 8 a ≡ big_from 0 4 a * 4294967296 + big_from 4 4 a
eight a = omega arith

greater_cmp : (x y : ℕ) → y < x → nat_cmp x y ≡ Greater
greater_cmp x y h = grind (arith, nat_tests)

module _ (a b : List ℕ) (p : AreBytes a) (q : AreBytes b) where
  -- keys that differ in the first four bytes
  pub by_high : (head_of a).high ≢ (head_of b).high → nat_cmp (head_of a).high (head_of b).high ≡ order a b
  by_high ne = elim (cases_lt (big_from 0 4 a) (big_from 0 4 b)) [
    | inl less ↦ less_is (big_from 0 4 a) (big_from 0 4 b) less ∙ sym (before 4 a b p q less)
    | inr more ↦ let l : big_from 0 4 b < big_from 0 4 a = omega arith in greater_cmp (big_from 0 4 a) (big_from 0 4 b) l ∙ sym (greater_is a b (before 4 b a q p l))
  ]

  -- and keys that differ in the four after these
  pub by_low : (head_of a).high ≡ (head_of b).high → (head_of a).low ≢ (head_of b).low → nat_cmp (head_of a).low (head_of b).low ≡ order a b
  by_low same ne =
      let x = eight a in let y = eight b in
      let e : big_from 0 4 a ≡ big_from 0 4 b = same in
      elim (cases_lt (big_from 4 4 a) (big_from 4 4 b)) [
        | inl less ↦ less_is (big_from 4 4 a) (big_from 4 4 b) less ∙ sym (before 8 a b p q (omega arith))
        | inr more ↦ let l : big_from 4 4 b < big_from 4 4 a = omega arith in greater_cmp (big_from 4 4 a) (big_from 4 4 b) l ∙ sym (greater_is a b (before 8 b a q p (omega arith)))
      ]

pub high_order : (h g : Head) (a b : List ℕ) → AreBytes a → AreBytes b → h ≡ head_of a → g ≡ head_of b → h.high ≢ g.high → nat_cmp h.high g.high ≡ order a b
high_order h g a b p q e f ne =
    ap (λ (x : Head). nat_cmp x.high g.high) e ∙ ap (λ (x : Head). nat_cmp (head_of a).high x.high) f
    ∙ by_high a b p q (λ s. ne (ap (λ (x : Head). x.high) e ∙ s ∙ sym (ap (λ (x : Head). x.high) f)))

pub low_order : (h g : Head) (a b : List ℕ) → AreBytes a → AreBytes b → h ≡ head_of a → g ≡ head_of b → h.high ≡ g.high → h.low ≢ g.low → nat_cmp h.low g.low ≡ order a b
low_order h g a b p q e f same ne =
    ap (λ (x : Head). nat_cmp x.low g.low) e ∙ ap (λ (x : Head). nat_cmp (head_of a).low x.low) f
    ∙ by_low a b p q (sym (ap (λ (x : Head). x.high) e) ∙ same ∙ ap (λ (x : Head). x.high) f) (λ s. ne (ap (λ (x : Head). x.low) e ∙ s ∙ sym (ap (λ (x : Head). x.low) f)))

-- ---- how a key begins, from its bytes

abbrev pub of : ℕ → ℕ → Head
of high low = record { high = high; low = low }

both_same : (x y : Head) → x.high ≡ y.high → x.low ≡ y.low → x ≡ y
both_same x y e f = ap (λ a. of a x.low) e ∙ ap (λ b. of y.high b) f

pub shifted : (m : ℕ) (xs : List ℕ) → 4 ≤ m → big_from 0 4 (take m (drop 4 xs)) ≡ big_from 4 4 xs
shifted m xs le =
    let a = get_or-take m (drop 4 xs) 0 0 (omega arith) ∙ get_or-drop 4 xs 0 0 in
    let b = get_or-take m (drop 4 xs) 1 0 (omega arith) ∙ get_or-drop 4 xs 1 0 in
    let c = get_or-take m (drop 4 xs) 2 0 (omega arith) ∙ get_or-drop 4 xs 2 0 in
    let d = get_or-take m (drop 4 xs) 3 0 (omega arith) ∙ get_or-drop 4 xs 3 0 in
    omega arith

pub head_by : (xs : List ℕ) (high low : ℕ) → high ≡ big_from 0 4 xs → low ≡ big_from 4 4 xs → of high low ≡ head_of xs
head_by xs high low e f = both_same (of high low) (head_of xs) e f

pub same_head : (xs ys : List ℕ) → ((i : ℕ) → i < 8 → slice_index xs i ≡ slice_index ys i) → head_of xs ≡ head_of ys
same_head xs ys h =
    let a = h 0 (omega arith) in let b = h 1 (omega arith) in let c = h 2 (omega arith) in let d = h 3 (omega arith) in
    let e = h 4 (omega arith) in let f = h 5 (omega arith) in let g = h 6 (omega arith) in let i = h 7 (omega arith) in
    let high : big_from 0 4 xs ≡ big_from 0 4 ys = omega arith in
    let low : big_from 4 4 xs ≡ big_from 4 4 ys = omega arith in
    both_same (head_of xs) (head_of ys) high low
