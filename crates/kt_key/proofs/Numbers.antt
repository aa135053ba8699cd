-- Numbers in big-endian bytes compare as the numbers do.
use Rattle.std.proofs.Common.{◌≡◌, ℕ, zero, suc, ◌+◌, ◌-◌, ◌*◌, ◌/◌, ◌%◌, ◌^◌, ◌<◌, ℤ, pos, negsuc, ◌<ℤ◌, ◌≤ℤ◌, ◌-ℤ◌, neg_ℤ, true, List, [], ◌∷◌, ◌++◌, ◌⊎◌, inl, inr, refl, sym, ap, ◌∙◌, arith, append_assoc}
use Rattle.std.specs.Int.{byte_at, bytes_high_first}
use Rattle.std.specs.declared.cmp.Ordering.{Ordering}
use Rattle.std.specs.declared.cmp.Ordering.TheVariants.{Less, Equal, Greater}
use Rattle.std.specs.Ordering.{nat_cmp, int_cmp, ordering_then}
use Rattle.std.specs.Cmp.{nat_cmp_is, int_cmp_is}
use Rattle.std.specs.Cmp.Lexicographic.{slice_cmp}
use Rattle.std.proofs.Math.Nat.{div-div-eq-div-mul, div-lt_iff_lt-mul, pow-suc, pow-succ'}
use Rattle.std.proofs.lemmas.Bool.{cases_lt, ltb-true, lt-ltb}
use Rattle.std.proofs.lemmas.Int.{ints}
use Rattle.kt_base.specs.Keys.{raised}
use Rattle.kt_key.specs.Fit.{in_range}

-- three ways in which two numbers may stand
pub cases_cmp : (a b : ℕ) → (a < b) ⊎ ((a ≡ b) ⊎ (b < a))
cases_cmp a b = elim (cases_lt a b) [
  | inl lt ↦ inl lt
  | inr le ↦ elim (cases_lt b a) [ inl gt ↦ inr (inr gt) | inr ge ↦ inr (inl (omega (arith, le, ge))) ]
]

pub nat_cmp-by : (a b : ℕ) (o : Ordering) → (a < b → o ≡ Less) → (a ≡ b → o ≡ Equal) → (b < a → o ≡ Greater) → nat_cmp a b ≡ o
nat_cmp-by a b o less same more = elim (cases_cmp a b) [
  | inl lt ↦ sym (nat_cmp_is a b Less lt) ∙ sym (less lt)
  | inr rest ↦ elim rest [
    | inl eq ↦ sym (nat_cmp_is a b Equal eq) ∙ sym (same eq)
    | inr gt ↦ sym (nat_cmp_is a b Greater gt) ∙ sym (more gt)
  ]
]

pub nat_cmp-self : (a : ℕ) → nat_cmp a a ≡ Equal
nat_cmp-self a = sym (nat_cmp_is a a Equal refl)

pub then-assoc : (o p q : Ordering) → ordering_then (ordering_then o p) q ≡ ordering_then o (ordering_then p q)
then-assoc Less p q = refl
then-assoc Equal p q = refl
then-assoc Greater p q = refl

pub then-equal : (o : Ordering) → ordering_then o Equal ≡ o
then-equal Less = refl
then-equal Equal = refl
then-equal Greater = refl

-- by the quotient by 256 first, and then by what is left
nat_cmp-digits : (a b : ℕ) → nat_cmp a b ≡ ordering_then (nat_cmp (a / 256) (b / 256)) (nat_cmp (a % 256) (b % 256))
nat_cmp-digits a b = elim (cases_cmp (a / 256) (b / 256)) [
  | inl lt ↦ sym (nat_cmp_is a b Less (omega (arith, lt))) ∙ ap (λ o. ordering_then o (nat_cmp (a % 256) (b % 256))) (nat_cmp_is (a / 256) (b / 256) Less lt)
  | inr rest ↦ elim rest [
    | inl eq ↦ nat_cmp-by a b _ (λ h. sym (nat_cmp_is (a % 256) (b % 256) Less (omega (arith, eq, h)))) (λ h. sym (nat_cmp_is (a % 256) (b % 256) Equal (omega (arith, eq, h)))) (λ h. sym (nat_cmp_is (a % 256) (b % 256) Greater (omega (arith, eq, h))))
        ∙ ap (λ o. ordering_then o (nat_cmp (a % 256) (b % 256))) (nat_cmp_is (a / 256) (b / 256) Equal eq)
    | inr gt ↦ sym (nat_cmp_is a b Greater (omega (arith, gt))) ∙ ap (λ o. ordering_then o (nat_cmp (a % 256) (b % 256))) (nat_cmp_is (a / 256) (b / 256) Greater gt)
  ]
]

byte_at-suc : (i a : ℕ) → byte_at (suc i) a ≡ byte_at i (a / 256)
byte_at-suc zero a = refl
byte_at-suc (suc i) a = ap (λ d. d % 256) (ap (λ p. a / p) (pow-succ' 256 (suc i)) ∙ sym (div-div-eq-div-mul a 256 (256 ^ suc i)))

-- the lowest byte stands last
bytes-more : (k a : ℕ) → bytes_high_first (suc k) a ≡ bytes_high_first k (a / 256) ++ a % 256 ∷ []
bytes-more zero a = refl
bytes-more (suc k) a = ap (λ b. b ∷ bytes_high_first (suc k) a) (byte_at-suc k a) ∙ ap (λ bs. byte_at k (a / 256) ∷ bs) (bytes-more k a)

pub bytes-cmp : (k a b : ℕ) (r s : List ℕ) → a < 256 ^ k → b < 256 ^ k
    → slice_cmp nat_cmp (bytes_high_first k a ++ r) (bytes_high_first k b ++ s) ≡ ordering_then (nat_cmp a b) (slice_cmp nat_cmp r s)
bytes-cmp zero a b r s a-in b-in = ap (λ o. ordering_then o (slice_cmp nat_cmp r s)) (nat_cmp_is a b Equal (omega (arith, a-in, b-in)))
bytes-cmp (suc k) a b r s a-in b-in =
    let left = ap (λ xs. xs ++ r) (bytes-more k a) ∙ append_assoc (bytes_high_first k (a / 256)) (a % 256 ∷ []) r in
    let right = ap (λ xs. xs ++ s) (bytes-more k b) ∙ append_assoc (bytes_high_first k (b / 256)) (b % 256 ∷ []) s in
    let a-high : a / 256 < 256 ^ k = (div-lt_iff_lt-mul (omega arith)).1 (omega (arith, a-in, pow-suc 256 k)) in
    let b-high : b / 256 < 256 ^ k = (div-lt_iff_lt-mul (omega arith)).1 (omega (arith, b-in, pow-suc 256 k)) in
    ap (λ xs. slice_cmp nat_cmp xs (bytes_high_first (suc k) b ++ s)) left ∙ ap (λ ys. slice_cmp nat_cmp (bytes_high_first k (a / 256) ++ a % 256 ∷ r) ys) right
    ∙ bytes-cmp k (a / 256) (b / 256) (a % 256 ∷ r) (b % 256 ∷ s) a-high b-high
    ∙ sym (then-assoc (nat_cmp (a / 256) (b / 256)) (nat_cmp (a % 256) (b % 256)) (slice_cmp nat_cmp r s))
    ∙ ap (λ o. ordering_then o (slice_cmp nat_cmp r s)) (sym (nat_cmp-digits a b))

cmp_as : (a b : ℕ) (m n : ℤ) → (a < b → m <ℤ n) → (a ≡ b → m ≡ n) → (b < a → n <ℤ m) → nat_cmp a b ≡ int_cmp m n
cmp_as a b m n less same more = nat_cmp-by a b (int_cmp m n) (λ h. sym (int_cmp_is m n Less (less h))) (λ h. sym (int_cmp_is m n Equal (same h))) (λ h. sym (int_cmp_is m n Greater (more h)))

-- numbers compare as their distances from the least one
pub raised-cmp : (half : ℕ) (m n : ℤ) → in_range half m ≡ true → in_range half n ≡ true → nat_cmp (raised half m) (raised half n) ≡ int_cmp m n
raised-cmp half (pos m) (pos n) p q = cmp_as (half + m) (half + n) (pos m) (pos n) (λ h. omega (arith, ints, h)) (λ h. ap pos (omega (arith, h))) (λ h. omega (arith, ints, h))
raised-cmp half (pos m) (negsuc n) p q = cmp_as (half + m) (half - suc n) (pos m) (negsuc n) (λ h. absurd (omega (arith, h))) (λ h. absurd (omega (arith, h, ltb-true n half q))) (λ h. omega (arith, ints))
raised-cmp half (negsuc m) (pos n) p q = cmp_as (half - suc m) (half + n) (negsuc m) (pos n) (λ h. omega (arith, ints)) (λ h. absurd (omega (arith, h, ltb-true m half p))) (λ h. absurd (omega (arith, h)))
raised-cmp half (negsuc m) (negsuc n) p q =
    cmp_as (half - suc m) (half - suc n) (negsuc m) (negsuc n) (λ h. omega (arith, ints, h)) (λ h. ap negsuc (omega (arith, h, ltb-true m half p, ltb-true n half q))) (λ h. omega (arith, ints, h))

-- what the range is
pub range_bounds : (half : ℕ) (n : ℤ) → in_range half n ≡ true → (neg_ℤ (pos half) ≤ℤ n) × (n <ℤ pos half)
range_bounds half (pos n) h = (omega (arith, ints), omega (arith, ints, ltb-true n half h))
range_bounds half (negsuc n) h = (omega (arith, ints, ltb-true n half h), omega (arith, ints))

pub raised-lt : (half : ℕ) (n : ℤ) → in_range half n ≡ true → raised half n < 2 * half
raised-lt half (pos n) h = omega (arith, ltb-true n half h)
raised-lt half (negsuc n) h = omega (arith, ltb-true n half h)

-- a distance from the least number, taken back
pub lowered_is : (half number : ℕ) → number < 2 * half → (in_range half (pos number -ℤ pos half) ≡ true) × (raised half (pos number -ℤ pos half) ≡ number)
lowered_is half number h = elim (cases_lt number half) [
  | inl lt ↦
      let e : pos number -ℤ pos half ≡ negsuc (half - suc number) = omega (arith, ints) in
      rw e (lt-ltb (half - suc number) half (omega (arith, lt)), omega (arith, lt))
  | inr ge ↦
      let e : pos number -ℤ pos half ≡ pos (number - half) = omega (arith, ints) in
      rw e (lt-ltb (number - half) half (omega (arith, h, ge)), omega (arith, ge))
]
