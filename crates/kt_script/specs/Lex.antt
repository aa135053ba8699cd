-- The literals of a row line byte by byte.
use Rattle.std.specs.Prelude.{ℕ, Bool, true, false, ◌&&◌, ◌||◌, Option, Some, None, ◌==◌, nat_le, if◌then◌else◌}
use Rattle.kt_base.specs.Literals.{is_digit, is_hex, hex_value, is_escaped}
use Rattle.kt_script.specs.declared.lex.Lex.{Lex}
use Rattle.kt_script.specs.declared.lex.Lex.TheVariants.{Start, N, Nu, Nul, T, Tr, Tru, F, Fa, Fal, Fals, Minus, Zero, Digits, X, Text, Slash, High, Low, LowOfSeven, Pairs, Pair, Whole}

-- behind \x and a digit: only bytes 00 to 1f and 7f are spelled so
abbrev pub low_of : ℕ → Option Lex
low_of digit = if nat_le digit 1 then Some Low else (if digit == 7 then Some LowOfSeven else None)

-- where a literal stands one byte on, if some literal goes on with this byte
abbrev pub next : Lex → ℕ → Option Lex
next Start b = if b == 110 then Some N else (if b == 116 then Some T else (if b == 102 then Some F else (if b == 45 then Some Minus else (if b == 48 then Some Zero else (if is_digit b then Some Digits else (if b == 34 then Some Text else (if b == 120 then Some X else None)))))))
next N b = if b == 117 then Some Nu else None
next Nu b = if b == 108 then Some Nul else None
next Nul b = if b == 108 then Some Whole else None
next T b = if b == 114 then Some Tr else None
next Tr b = if b == 117 then Some Tru else None
next Tru b = if b == 101 then Some Whole else None
next F b = if b == 97 then Some Fa else None
next Fa b = if b == 108 then Some Fal else None
next Fal b = if b == 115 then Some Fals else None
next Fals b = if b == 101 then Some Whole else None
next Minus b = if b == 48 then None else (if is_digit b then Some Digits else None)
next Zero b = None
next Digits b = if is_digit b then Some Digits else None
next X b = if b == 34 then Some Pairs else None
next Text b = if b == 34 then Some Whole else (if b == 92 then Some Slash else (if is_escaped b then None else Some Text))
next Slash b = if (b == 34) || (b == 92) then Some Text else (if b == 120 then Some High else None)
next High b = if is_hex b then low_of (hex_value b) else None
next Low b = if is_hex b then Some Text else None
next LowOfSeven b = if b == 102 then Some Text else None
next Pairs b = if b == 34 then Some Whole else (if is_hex b then Some Pair else None)
next Pair b = if is_hex b then Some Pairs else None
next Whole b = None

-- a literal may end here
abbrev pub is_whole : Lex → Bool
is_whole Zero = true
is_whole Digits = true
is_whole Whole = true
is_whole _ = false

-- behind a literal a space may stand, and then the next one begins
abbrev pub or_space : Bool → Option Lex → Option Lex
or_space space (Some s) = Some s
or_space space None = if space then Some Start else None

abbrev pub next_in_row : Lex → ℕ → Option Lex
next_in_row s b = or_space ((b == 32) && is_whole s) (next s b)
