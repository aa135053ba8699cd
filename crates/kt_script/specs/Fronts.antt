-- The kinds of spellings that an output text is made of.
use Rattle.std.specs.Prelude.{◌≡◌, ◌≤◌, ◌⊎◌, ℕ, List, ◌++◌, ◌+◌, ◌-◌, ◌*◌, ◌&&◌, nat_le, Option, Some, None, if◌then◌else◌}
use Rattle.std.specs.Fmt.{decimal}
use Rattle.kt_base.specs.Literals.{is_digit}

-- a spelling of the one kind or of the other
abbrev pub Either : (List ℕ → Type 0) → (List ℕ → Type 0) → List ℕ → Type 0
Either A B text = A text ⊎ B text

-- a spelling of the one kind, and behind it one of the other
abbrev pub Chain : (List ℕ → Type 0) → (List ℕ → Type 0) → List ℕ → Type 0
Chain A B text = (a : List ℕ) × (b : List ℕ) × A a × B b × (text ≡ a ++ b)

-- the greater of two places
pub record IsFurther (a b place : ℕ) : Type 0 where
  pub first : a ≤ place
  pub second : b ≤ place
  pub one : (place ≡ a) ⊎ (place ≡ b)

-- this word alone
abbrev pub IsWord : List ℕ → List ℕ → Type 0
IsWord word text = text ≡ word

-- a decimal number up to a greatest one, without leading zeros
abbrev pub IsNumber : ℕ → List ℕ → Type 0
IsNumber most text = (n : ℕ) × (n ≤ most) × (text ≡ decimal n)

-- what stands behind the digits of this number, in such a number
abbrev pub IsBehind : ℕ → ℕ → List ℕ → Type 0
IsBehind most value rest = IsNumber most (decimal value ++ rest)

-- the number that is longer by this byte, if it is a digit and the number is not too great
abbrev pub longer : ℕ → ℕ → ℕ → Option ℕ
longer most value b = if is_digit b && nat_le (value * 10 + (b - 48)) most then Some (value * 10 + (b - 48)) else None
