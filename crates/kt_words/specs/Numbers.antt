-- A number in a word of the command line.
use Rattle.std.specs.Prelude.{ℕ, ◌+◌, ◌-◌, ◌*◌, ◌&&◌, List, [], ◌∷◌, length, Option, Some, None, nat_le, nat_lt, if◌then◌else◌}
use Rattle.std.specs.Option.{option_and_then}
use Rattle.kt_base.specs.Literals.{is_digit}

-- the number of some digits behind those of a number
abbrev pub digits_from : ℕ → List ℕ → Option ℕ
digits_from n [] = Some n
digits_from n (d ∷ ds) = if is_digit d then digits_from (n * 10 + (d - 48)) ds else None

abbrev pub between : ℕ → ℕ → ℕ → Option ℕ
between least most n = if nat_le least n && nat_le n most then Some n else None

-- the number by one to ten digits, leading zeros among them, where it lies in these bounds
abbrev pub number_said : ℕ → ℕ → List ℕ → Option ℕ
number_said least most digits = if nat_lt 0 (length digits) && nat_le (length digits) 10 then option_and_then (between least most) (digits_from 0 digits) else None
