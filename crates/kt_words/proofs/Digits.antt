-- The number that digits say, digit by digit.
use Rattle.std.proofs.Common.{◌≡◌, ℕ, ◌+◌, ◌-◌, ◌*◌, ◌<◌, List, [], ◌∷◌, length, Bool, true, false, Option, Some, None, refl, ap, arith}
use Rattle.std.specs.Prelude.{nat_lt, nat_le, ◌&&◌, if◌then◌else◌}
use Rattle.std.specs.Option.{option_and_then}
use Rattle.std.proofs.lemmas.Bool.Decides.{nat_tests}
use Rattle.kt_base.specs.Literals.{is_digit}
use Rattle.kt_words.specs.Numbers.{digits_from, between, number_said}

over : (b c : Bool) (n : ℕ) → c ≡ false → (if b && c then Some n else None) ≡ None
over true c n large = ap (λ t. if t then Some n else None) large
over false c n large = refl

module _ (least most : ℕ) where
  either : (b : Bool) (x : Option ℕ) → option_and_then (between least most) x ≡ None → option_and_then (between least most) (if b then x else None) ≡ None
  either true x none = none
  either false x none = refl

  -- a number that is too large stays too large
  pub too_many : (ds : List ℕ) (n : ℕ) → most < n → option_and_then (between least most) (digits_from n ds) ≡ None
  too_many [] n large = over (nat_le least n) (nat_le n most) n (grind (arith, nat_tests))
  too_many (d ∷ ds) n large = either (is_digit d) (digits_from (n * 10 + (d - 48)) ds) (too_many ds (n * 10 + (d - 48)) (omega arith))

  -- what is no digit ends no number
  pub no_digit : (d n : ℕ) (ds : List ℕ) → is_digit d ≡ false → option_and_then (between least most) (digits_from n (d ∷ ds)) ≡ None
  no_digit d n ds none = ap (λ b. option_and_then (between least most) (if b then digits_from (n * 10 + (d - 48)) ds else None)) none

  within : (b : Bool) (x : Option ℕ) → x ≡ None → (if b then x else None) ≡ None
  within true x none = none
  within false x none = refl

  -- where the digits say no number in these bounds, none is said
  pub none_said : (digits : List ℕ) → option_and_then (between least most) (digits_from 0 digits) ≡ None → number_said least most digits ≡ None
  none_said digits none = within (nat_lt 0 (length digits) && nat_le (length digits) 10) (option_and_then (between least most) (digits_from 0 digits)) none
