-- Numbers as literals.
use Rattle.std.proofs.Common.{◌≡◌, ℕ, zero, suc, ◌-◌, ◌<◌, ◌≤◌, ◌^◌, ℤ, List, [], ◌∷◌, refl, sym, ap, subst, ◌∙◌, arith, length, get_or, Bool, true, false, Option, Some, None, Ok, Err}
use Rattle.std.specs.Prelude.{◌≢◌, ◌||◌, ◌&&◌, ◌==◌, pos, negsuc, nat_le, if◌then◌else◌, not, codes, is_some, FitsSigned}
use Rattle.std.specs.Int.{w64}
use Rattle.std.specs.List.{list_all}
use Rattle.std.specs.Option.{option_map}
use Rattle.std.specs.Fmt.{decimal, signed_decimal}
use Rattle.std.proofs.lemmas.Bool.Decides.{nat_tests}
use Rattle.std.proofs.lemmas.Fmt.{digits_decimal, digits_value-decimal, decimal-digits_value, decimal_nonempty, first_decimal, decimal_digit}
use Rattle.std.proofs.lemmas.Str.Parse.{IsNumeralModel, numerals_by_fold}
use Rattle.kt_base.specs.declared.cell.Kind.{Kind}
use Rattle.kt_base.specs.declared.cell.Kind.TheVariants as kind
use Rattle.kt_base.specs.declared.cell.Cell.TheVariants as cell
use Rattle.kt_base.specs.declared.literal.LiteralNo.TheVariants as no
use Rattle.kt_base.specs.Literals.{is_digit, is_count, count_on, below_zero, number_in, within, number_fits, same, number, cell_or}
use Rattle.kt_base.proofs.Decimals.{same_text}
use lib.Signed.{mag}

pub both_true : (a b : Bool) → (a && b) ≡ true → (a ≡ true) × (b ≡ true)
both_true true b h = (refl, h)
both_true false b h = absurd cc

pub both : (a b : Bool) → a ≡ true → b ≡ true → (a && b) ≡ true
both a b g h = ap (λ x. x && b) g ∙ h

digit_range : (c : ℕ) → is_digit c ≡ true → (48 ≤ c) × (c ≤ 57)
digit_range c h = let two = both_true (nat_le 48 c) (nat_le c 57) h in let low = two.0 in let high = two.1 in (grind (arith, nat_tests), grind (arith, nat_tests))

range_digit : (c : ℕ) → 48 ≤ c → c ≤ 57 → is_digit c ≡ true
range_digit c g h = both (nat_le 48 c) (nat_le c 57) (grind (arith, nat_tests)) (grind (arith, nat_tests))

abbrev AreDigits : List ℕ → Type 0
AreDigits ds = list_all is_digit ds ≡ true

own : IsNumeralModel AreDigits (count_on 0)
own = numerals_by_fold AreDigits (record {
  empty = refl;
  parts = λ c cs h. let two = both_true (is_digit c) (list_all is_digit cs) h in (digit_range c two.0, two.1);
  more = λ c cs r h. both (is_digit c) (list_all is_digit cs) (range_digit c r.0 r.1) h;
}) count_on (record { empty = λ n. refl; more = λ n c cs h. refl })

-- no leading zero
abbrev Leads : List ℕ → Type 0
Leads ds = get_or ds 0 0 ≡ 48 → length ds ≡ 1

lead_test : (d : ℕ) (ds : List ℕ) → Leads (d ∷ ds) → (not (d == 48) || (length ds == 0)) ≡ true
lead_test d [] h = or_true (not (d == 48))
  where
    or_true : (a : Bool) → (a || true) ≡ true
    or_true true = refl
    or_true false = refl
lead_test d (e ∷ ds) h = by (d == 48) refl
  where
    by : (t : Bool) → (d == 48) ≡ t → (not t || (length (e ∷ ds) == 0)) ≡ true
    by true g = let is : d ≡ 48 = grind (arith, nat_tests) in let one : length (d ∷ e ∷ ds) ≡ 1 = h is in absurd (omega (arith, one))
    by false g = refl

test_lead : (d : ℕ) (ds : List ℕ) → (not (d == 48) || (length ds == 0)) ≡ true → Leads (d ∷ ds)
test_lead d [] h is = refl
test_lead d (e ∷ ds) h is = by (d == 48) refl h
  where
    by : (t : Bool) → (d == 48) ≡ t → (not t || (length (e ∷ ds) == 0)) ≡ true → length (d ∷ e ∷ ds) ≡ 1
    by true g f = let none : (length (e ∷ ds) == 0) ≡ true = f in absurd (grind (arith, nat_tests))
    by false g f = absurd (grind (arith, nat_tests))

count_of : (ds : List ℕ) → 0 < length ds → AreDigits ds → Leads ds → is_count ds ≡ true
count_of [] h d l = absurd (omega arith)
count_of (x ∷ ds) h d l = both (list_all is_digit (x ∷ ds)) (not (x == 48) || (length ds == 0)) d (lead_test x ds l)

of_count : (ds : List ℕ) → is_count ds ≡ true → (0 < length ds) × AreDigits ds × Leads ds
of_count [] h = absurd cc
of_count (x ∷ ds) h = let two = both_true (list_all is_digit (x ∷ ds)) (not (x == 48) || (length ds == 0)) h in (omega arith, two.0, test_lead x ds two.1)

decimal_leads : (n : ℕ) → n < 2 ^ 64 → Leads (decimal n)
decimal_leads zero h e = ap length (decimal_digit 0 (omega arith))
decimal_leads (suc n) h e = let first = first_decimal (suc n) (omega arith) h in absurd (omega arith)

decimal_counts : (n : ℕ) → n < 2 ^ 64 → is_count (decimal n) ≡ true
decimal_counts n h = count_of (decimal n) (decimal_nonempty n h) (digits_decimal own n h) (decimal_leads n h)

decimal_value : (n : ℕ) → n < 2 ^ 64 → count_on 0 (decimal n) ≡ n
decimal_value n h = digits_value-decimal own n h

value_decimal : (ds : List ℕ) → is_count ds ≡ true → count_on 0 ds < 2 ^ 64 → decimal (count_on 0 ds) ≡ ds
value_decimal ds c h = let parts = of_count ds c in decimal-digits_value own ds parts.1 parts.0 parts.2 h

-- digits are no sign
unsigned_in : (ds : List ℕ) → is_count ds ≡ true → number_in ds ≡ Some (pos (count_on 0 ds))
unsigned_in [] h = absurd cc
unsigned_in (d ∷ ds) h =
    let two = both_true (list_all is_digit (d ∷ ds)) (not (d == 48) || (length ds == 0)) h in
    let one = both_true (is_digit d) (list_all is_digit ds) two.0 in
    let low = (digit_range d one.0).0 in
    let none : (d == 45) ≡ false = grind (arith, nat_tests) in
    choose (d == 45) (if is_count ds && not (same ds (codes "0")) then Some (below_zero (count_on 0 ds)) else None) (if is_count (d ∷ ds) then Some (pos (count_on 0 (d ∷ ds))) else None) none ∙ ap (λ t. if t then Some (pos (count_on 0 (d ∷ ds))) else None) h
  where
    choose : (t : Bool) (x y : Option ℤ) → t ≡ false → (if t then x else y) ≡ y
    choose true x y e = absurd cc
    choose false x y e = refl

minus_in : (ds : List ℕ) → is_count ds ≡ true → same ds (codes "0") ≡ false → number_in (45 ∷ ds) ≡ Some (below_zero (count_on 0 ds))
minus_in ds h n = ap (λ t. if t && not (same ds (codes "0")) then Some (below_zero (count_on 0 ds)) else None) h ∙ ap (λ t. if not t then Some (below_zero (count_on 0 ds)) else None) n

-- the text of a number is read as the number
pub number_again : (n : ℤ) → FitsSigned w64 n → number_in (signed_decimal n) ≡ Some n
number_again (pos n) f =
    let small : n < 2 ^ 63 = f.sfits in
    unsigned_in (decimal n) (decimal_counts n (omega arith)) ∙ ap (λ k. Some (pos k)) (decimal_value n (omega arith))
number_again (negsuc n) f =
    let small : n < 2 ^ 63 = f.sfits in
    let before : suc n - 1 ≡ n = omega arith in
    let value = decimal_value (suc n) (omega arith) in
    minus_in (decimal (suc n)) (decimal_counts (suc n) (omega arith)) (other (same (decimal (suc n)) (codes "0")) refl value) ∙ (ap (λ k. Some (below_zero k)) value ∙ ap (λ k. Some (negsuc k)) before)
  where
    other : (t : Bool) → same (decimal (suc n)) (codes "0") ≡ t → count_on 0 (decimal (suc n)) ≡ suc n → t ≡ false
    other true e v = let is : 0 ≡ suc n = sym (ap (count_on 0) (same_text (decimal (suc n)) (codes "0") e)) ∙ v in absurd (omega arith)
    other false e v = refl

of_some : {X : Type 0} (t : Bool) (x y : X) → (if t then Some x else None) ≡ Some y → (t ≡ true) × (x ≡ y)
of_some true x y e = (refl, cc)
of_some false x y e = absurd cc

zero_count : (ds : List ℕ) → is_count ds ≡ true → count_on 0 ds ≡ 0 → same ds (codes "0") ≡ true
zero_count ds c z =
    let is : ds ≡ codes "0" = sym (value_decimal ds c (omega arith)) ∙ (ap decimal z ∙ decimal_digit 0 (omega arith)) in
    ap (λ x. same x (codes "0")) is

-- what is read as a number of 64 bits is its text
pub number_text : (text : List ℕ) (n : ℤ) → number_in text ≡ Some n → mag n < 2 ^ 63 → text ≡ signed_decimal n
number_text [] n e h = absurd cc
number_text (b ∷ ds) n e h = by (b == 45) refl e
  where
    signed : b ≡ 45 → (is_count ds && not (same ds (codes "0"))) ≡ true → (v : ℤ) → below_zero (count_on 0 ds) ≡ v → v ≡ n → b ∷ ds ≡ signed_decimal n
    signed minus t v is same_n =
        let two = both_true (is_count ds) (not (same ds (codes "0"))) t in
        let value : negsuc (count_on 0 ds - 1) ≡ n = is ∙ same_n in
        let size : count_on 0 ds - 1 < 2 ^ 63 = subst (λ z. mag z < 2 ^ 63) (sym value) h in
        some (count_on 0 ds) refl two.0 two.1 value size
      where
        some : (k : ℕ) → count_on 0 ds ≡ k → is_count ds ≡ true → not (same ds (codes "0")) ≡ true → negsuc (k - 1) ≡ n → k - 1 < 2 ^ 63 → b ∷ ds ≡ signed_decimal n
        some zero k c o value size = let zero_is = zero_count ds c k in absurd cc
        some (suc k) k_is c o value size =
            let back : decimal (suc k) ≡ ds = ap decimal (sym k_is) ∙ value_decimal ds c (omega (arith, k_is)) in
            let next : suc k - 1 ≡ k = omega arith in
            ap (λ x. x ∷ ds) minus ∙ (ap (λ x. 45 ∷ x) (sym back) ∙ (ap (λ m. signed_decimal (negsuc m)) (sym next) ∙ ap signed_decimal value))

    by : (t : Bool) → (b == 45) ≡ t → (if t then (if is_count ds && not (same ds (codes "0")) then Some (below_zero (count_on 0 ds)) else None) else (if is_count (b ∷ ds) then Some (pos (count_on 0 (b ∷ ds))) else None)) ≡ Some n → b ∷ ds ≡ signed_decimal n
    by true g f =
        let two = of_some (is_count ds && not (same ds (codes "0"))) (below_zero (count_on 0 ds)) n f in
        let minus : b ≡ 45 = grind (arith, nat_tests) in
        signed minus two.0 (below_zero (count_on 0 ds)) refl two.1
    by false g f =
        let two = of_some (is_count (b ∷ ds)) (pos (count_on 0 (b ∷ ds))) n f in
        let size : count_on 0 (b ∷ ds) < 2 ^ 63 = subst (λ z. mag z < 2 ^ 63) (sym two.1) h in
        sym (value_decimal (b ∷ ds) two.0 (omega arith)) ∙ ap signed_decimal two.1

within_mag : (half : ℕ) (n : ℤ) → within half n ≡ true → mag n < half
within_mag half (pos n) h = grind (arith, nat_tests)
within_mag half (negsuc n) h = grind (arith, nat_tests)

-- a number that fits a kind has 64 bits
pub fits_mag : (k : Kind) (n : ℤ) → number_fits k n ≡ true → mag n < 2 ^ 63
fits_mag kind.Bool n h = absurd cc
fits_mag kind.Int8 n h = let w = within_mag 128 n h in omega (arith, w)
fits_mag kind.Int16 n h = let w = within_mag 32768 n h in omega (arith, w)
fits_mag kind.Int32 n h = let w = within_mag 2147483648 n h in omega (arith, w)
fits_mag kind.Int64 n h = within_mag (2 ^ 63) n h
fits_mag kind.String n h = absurd cc
fits_mag kind.Binary n h = absurd cc

pub mag_signed : (n : ℤ) → mag n < 2 ^ 63 → FitsSigned w64 n
mag_signed n h = record { sfits = h }

-- a literal number that is no number of 64 bits fits no kind
pub no_kind : (k : Kind) (text : List ℕ) → is_some (number_in text) ≡ true → ((n : ℤ) → FitsSigned w64 n → text ≢ signed_decimal n) → cell_or k (option_map (λ x. number x) (number_in text)) ≡ Err no.Kind
no_kind k text some none = by (number_in text) refl some
  where
    unfit : (n : ℤ) (t : Bool) → number_in text ≡ Some n → number_fits k n ≡ t → cell_or k (Some (number n)) ≡ Err no.Kind
    unfit n true e f = let small = fits_mag k n f in absurd (none n (mag_signed n small) (number_text text n e small))
    unfit n false e f = ap (λ t. if t then Ok (cell.Int n) else Err no.Kind) f

    by : (o : Option ℤ) → number_in text ≡ o → is_some o ≡ true → cell_or k (option_map (λ x. number x) o) ≡ Err no.Kind
    by None e s = absurd cc
    by (Some n) e s = unfit n (number_fits k n) e refl

-- a number in the kind's range, under either name
pub read_number : (k : Kind) (text : List ℕ) (n m : ℤ) → FitsSigned w64 n → text ≡ signed_decimal n → m ≡ n → number_fits k m ≡ true → cell_or k (option_map (λ x. number x) (number_in text)) ≡ Ok (cell.Int m)
read_number k text n m f is same_n fit =
    let read : number_in text ≡ Some m = ap number_in is ∙ (number_again n f ∙ ap Some (sym same_n)) in
    ap (λ o. cell_or k (option_map (λ x. number x) o)) read ∙ ap (λ t. if t then Ok (cell.Int m) else Err no.Kind) fit

pub read_unfit : (k : Kind) (text : List ℕ) (n m : ℤ) → FitsSigned w64 n → text ≡ signed_decimal n → m ≡ n → number_fits k m ≡ false → cell_or k (option_map (λ x. number x) (number_in text)) ≡ Err no.Kind
read_unfit k text n m f is same_n fit =
    let read : number_in text ≡ Some m = ap number_in is ∙ (number_again n f ∙ ap Some (sym same_n)) in
    ap (λ o. cell_or k (option_map (λ x. number x) o)) read ∙ ap (λ t. if t then Ok (cell.Int m) else Err no.Kind) fit
