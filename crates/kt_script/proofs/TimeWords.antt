-- The times that words name.
use Rattle.std.proofs.Common.{◌≡◌, ℕ, ◌-◌, ◌<◌, ◌≤◌, ◌^◌, ℤ, List, [], ◌∷◌, length, true, false, not, Option, Some, None, sym, ap, ◌∙◌, arith, inl, inr}
use Rattle.std.specs.Prelude.{◌&&◌, ◌||◌, ◌==◌, pos, negsuc, nat_lt, nat_le, if◌then◌else◌, codes}
use Rattle.std.specs.Fmt.{decimal}
use Rattle.std.specs.List.{list_all, AllByRecursion}
use Rattle.std.proofs.lemmas.Bool.{cases_lt}
use Rattle.std.proofs.lemmas.Bool.Decides.{nat_tests}
use Rattle.kt_base.specs.declared.cell.Kind.TheVariants as kind
use Rattle.kt_base.specs.Literals.{same, is_digit, is_count, count_on, below_zero, number_in}
use Rattle.kt_base.proofs.Spelled.{chosen}
use Rattle.kt_base.proofs.Values.{both_true, number_again, number_text, mag_signed}
use Rattle.kt_script.specs.Reasons.{sound, reason_if}
use Rattle.kt_script.specs.Outputs.{number_in as told_number}
use Rattle.kt_script.specs.declared.times.Time.TheVariants.{Named, TooLate}
use Rattle.kt_script.specs.Times.{most_time, time_in, late_no, IsTime}
use Rattle.kt_script.proofs.ToldLines.{number_is, number_told}
use Rattle.kt_script.proofs.PrintedWords.{High, decimal_high}

-- digits are no sign
no_sign : (d : ℕ) → is_digit d ≡ true → (d == 45) ≡ false
no_sign d h = let low = (both_true (nat_le 48 d) (nat_le d 57) h).0 in grind (arith, nat_tests)

-- a number that is written without a sign
pub unsigned : (word : List ℕ) → is_count word ≡ true → number_in word ≡ Some (pos (count_on 0 word))
unsigned [] h = absurd cc
unsigned (d ∷ ds) h =
    let digits = both_true (list_all is_digit (d ∷ ds)) (not (d == 48) || (length ds == 0)) h in
    let first = both_true (is_digit d) (list_all is_digit ds) digits.0 in
    ap (λ t. if t then (if is_count ds && not (same ds (codes "0")) then Some (below_zero (count_on 0 ds)) else None) else (if is_count (d ∷ ds) then Some (pos (count_on 0 (d ∷ ds))) else None)) (no_sign d first.0)
    ∙ ap (λ t. if t then Some (pos (count_on 0 (d ∷ ds))) else None) h

-- a number that is not below 0 is a time
not_below : (word : List ℕ) (t : ℕ) → number_in word ≡ Some (pos t) → time_in word ≡ Some t
not_below [] t h = absurd cc
not_below (b ∷ bytes) t h = elim (chosen (b == 45) _ _ _ h) [
  | inl minus ↦ elim (chosen (is_count bytes && not (same bytes (codes "0"))) _ _ _ minus.1) [
    | inl some ↦ absurd (below (count_on 0 bytes - 1) some.1)
    | inr none ↦ absurd (no_number none.1)
  ]
  | inr plain ↦ elim (chosen (is_count (b ∷ bytes)) _ _ _ plain.1) [
    | inl some ↦ ap (λ c. if c then Some (count_on 0 (b ∷ bytes)) else None) some.0 ∙ number (count_on 0 (b ∷ bytes)) some.1
    | inr none ↦ absurd (no_number none.1)
  ]
]
  where
    below : (n : ℕ) → ◌≡◌ {A = Option ℤ} (Some (negsuc n)) (Some (pos t)) → ⊥
    below n e = cc

    no_number : ◌≡◌ {A = Option ℤ} None (Some (pos t)) → ⊥
    no_number e = cc

    number : (n : ℕ) → ◌≡◌ {A = Option ℤ} (Some (pos n)) (Some (pos t)) → ◌≡◌ {A = Option ℕ} (Some n) (Some t)
    number n e = cc

-- the text of a time names it
pub time_again : (t : ℕ) → t ≤ most_time → time_in (decimal t) ≡ Some t
time_again t h = not_below (decimal t) t (number_again (pos t) (mag_signed (pos t) (omega arith)))

pub time_high : (t : ℕ) → t ≤ most_time → AllByRecursion High (decimal t)
time_high t h = decimal_high kind.Int64 (pos t) (small t h)
  where
    small : (n : ℕ) → n ≤ most_time → nat_lt n (2 ^ 63) ≡ true
    small n g = grind (arith, nat_tests)

pub not_late : (t : ℕ) → t ≤ most_time → late_no t ≡ sound
not_late t h = ap (λ b. reason_if b 20) (below t h)
  where
    below : (n : ℕ) → n ≤ most_time → nat_lt most_time n ≡ false
    below n g = grind (arith, nat_tests)

-- digits of a time are read as it
count_told : (word : List ℕ) → is_count word ≡ true → count_on 0 word ≤ most_time → told_number word ≡ Some (count_on 0 word)
count_told word h low =
    let text : word ≡ decimal (count_on 0 word) = number_text word (pos (count_on 0 word)) (unsigned word h) (omega arith) in
    ap told_number text ∙ number_told (count_on 0 word) (omega arith)

pub named : (word : List ℕ) (t : ℕ) → told_number word ≡ Some t → t ≤ most_time → IsTime word (Named t)
named word t read low = (ap time_in (number_is word t read).0 ∙ time_again t low, low)

-- digits that are read as no time
too_late : (word : List ℕ) → is_count word ≡ true → ((t : ℕ) → t ≤ most_time → told_number word ≡ Some t → ⊥) → IsTime word TooLate
too_late word h other = (
  count_on 0 word,
  ap (λ t. if t then Some (count_on 0 word) else None) h,
  elim (cases_lt most_time (count_on 0 word)) [ inl above ↦ above | inr low ↦ absurd (other (count_on 0 word) low (count_told word h low)) ],
)

-- a number above the latest time, whether it has 64 bits or more
pub late_number : (word : List ℕ) (t : ℕ) → is_count word ≡ true → told_number word ≡ Some t → most_time < t → IsTime word TooLate
late_number word t h read above = too_late word h (λ n low e. let same_number : n ≡ t = some_same n t (sym e ∙ read) in omega arith)
  where
    some_same : (m n : ℕ) → ◌≡◌ {A = Option ℕ} (Some m) (Some n) → m ≡ n
    some_same m n e = cc

pub long_number : (word : List ℕ) → is_count word ≡ true → told_number word ≡ None → IsTime word TooLate
long_number word h none = too_late word h (λ n low e. no_some n (sym none ∙ e))
  where
    no_some : (n : ℕ) → ◌≡◌ {A = Option ℕ} None (Some n) → ⊥
    no_some n e = cc
