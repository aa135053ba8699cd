-- Literals: the one spelling of a cell, and what a text is read as.
use Rattle.std.specs.Prelude.{◌≡◌, ◌≢◌, ◌<◌, ◌≤◌, All, slice_get, slice_index, slice_range, ℕ, ◌+◌, ◌-◌, ◌*◌, ◌/◌, ◌%◌, ℤ, pos, negsuc, Bool, false, true, not, ◌&&◌, ◌||◌, List, [], ◌∷◌, ◌++◌, length, Option, Some, None, Result, Ok, Err, if◌then◌else◌, ◌==◌, nat_eq, nat_lt, nat_le, codes}
use Rattle.std.specs.Fmt.{signed_decimal}
use Rattle.std.specs.List.{flat_map, list_all, AllByRecursion}
use Rattle.std.specs.Option.{option_map, option_or}
use Rattle.std.specs.Cmp.Lexicographic.{pointwise}
use Rattle.kt_base.specs.declared.cell.Kind.{Kind}
use Rattle.kt_base.specs.declared.cell.Kind.TheVariants as kind
use Rattle.kt_base.specs.declared.cell.Cell.{Cell}
use Rattle.kt_base.specs.declared.cell.Cell.TheVariants as cell
use Rattle.kt_base.specs.declared.literal.LiteralNo.{LiteralNo}
use Rattle.kt_base.specs.declared.literal.LiteralNo.TheVariants as no
use Rattle.kt_base.specs.declared.literal.Next.{Next}
use Rattle.kt_base.specs.declared.literal.Next.TheVariants as next
use Rattle.kt_base.specs.Keys.{width_of, half_of}

-- a hexadecimal digit in lower case
abbrev pub hex_digit : ℕ → ℕ
hex_digit n = if nat_lt n 10 then 48 + n else 87 + n

abbrev pub hex : ℕ → List ℕ
hex b = hex_digit (b / 16) ∷ hex_digit (b % 16) ∷ []

-- what does not stand for itself in a string literal: a byte that is escaped, or a number that is no byte
abbrev pub is_escaped : ℕ → Bool
is_escaped b = ((b == 34) || (b == 92)) || ((nat_lt b 32 || (b == 127)) || nat_le 256 b)

-- none of the bytes between two places is escaped
abbrev pub PlainBetween : List ℕ → ℕ → ℕ → Type 0
PlainBetween bytes from to = (k : ℕ) → from ≤ k → k < to → is_escaped (slice_index bytes k) ≡ false

-- a byte in a string literal
abbrev pub string_byte : ℕ → List ℕ
string_byte b = if (b == 34) || (b == 92) then 92 ∷ b ∷ [] else (if nat_lt b 32 || (b == 127) then 92 ∷ 120 ∷ hex b else b ∷ [])

-- bytes between quotes
abbrev pub string_literal : List ℕ → List ℕ
string_literal bytes = 34 ∷ flat_map string_byte bytes ++ 34 ∷ []

abbrev pub binary_literal : List ℕ → List ℕ
binary_literal bytes = codes "x\"" ++ flat_map hex bytes ++ 34 ∷ []

abbrev pub bytes_literal : Kind → List ℕ → List ℕ
bytes_literal kind.Binary bytes = binary_literal bytes
bytes_literal _ bytes = string_literal bytes

-- the one spelling of a cell in a column of this kind
abbrev pub literal : Kind → Cell → List ℕ
literal kind cell.Null = codes "null"
literal kind (cell.Int n) = signed_decimal n
literal kind (cell.Bool false) = codes "false"
literal kind (cell.Bool true) = codes "true"
literal kind (cell.Bytes bytes) = bytes_literal kind bytes

-- What a literal says, before it is asked for a kind.
pub data Value : Type 0 where
  nothing : Value
  truth : Bool → Value
  number : ℤ → Value
  text : List ℕ → Value
  raw : List ℕ → Value

abbrev pub same : List ℕ → List ℕ → Bool
same = pointwise nat_eq

abbrev pub is_digit : ℕ → Bool
is_digit b = nat_le 48 b && nat_le b 57

-- digits without leading zeros
abbrev pub is_count : List ℕ → Bool
is_count [] = false
is_count (d ∷ ds) = list_all is_digit (d ∷ ds) && (not (d == 48) || (length ds == 0))

-- the number of some digits, after the digits of this one
abbrev pub count_on : ℕ → List ℕ → ℕ
count_on n [] = n
count_on n (d ∷ ds) = count_on (n * 10 + (d - 48)) ds

-- a number below 0
abbrev pub below_zero : ℕ → ℤ
below_zero n = negsuc (n - 1)

-- an optional minus, and digits without leading zeros, but never -0
abbrev pub number_in : List ℕ → Option ℤ
number_in [] = None
number_in (b ∷ bytes) = if b == 45
    then (if is_count bytes && not (same bytes (codes "0")) then Some (below_zero (count_on 0 bytes)) else None)
    else (if is_count (b ∷ bytes) then Some (pos (count_on 0 (b ∷ bytes))) else None)

abbrev pub with_byte : ℕ → Option (List ℕ) → Option (List ℕ)
with_byte b read = option_map (λ bytes. b ∷ bytes) read

abbrev pub is_hex : ℕ → Bool
is_hex b = is_digit b || (nat_le 97 b && nat_le b 102)

abbrev pub hex_value : ℕ → ℕ
hex_value b = if nat_lt b 97 then b - 48 else b - 87

-- Where a byte of a string literal stands: among the others, behind a backslash, behind \x, or behind \x and this digit.
pub data Place : Type 0 where
  among : Place
  slashed : Place
  high : Place
  low : ℕ → Place

-- the bytes of a string literal behind its first quote, up to the second, which is the end
abbrev pub unquoted : Place → List ℕ → Option (List ℕ)
unquoted place [] = None
unquoted among (b ∷ bytes) = if b == 34 then (if length bytes == 0 then Some [] else None) else (if b == 92 then unquoted slashed bytes else (if is_escaped b then None else with_byte b (unquoted among bytes)))
unquoted slashed (b ∷ bytes) = if (b == 34) || (b == 92) then with_byte b (unquoted among bytes) else (if b == 120 then unquoted high bytes else None)
unquoted high (b ∷ bytes) = if is_hex b then unquoted (low (hex_value b)) bytes else None
unquoted (low digit) (b ∷ bytes) = if is_hex b && (nat_lt (16 * digit + hex_value b) 32 || ((16 * digit + hex_value b) == 127)) then with_byte (16 * digit + hex_value b) (unquoted among bytes) else None

abbrev pub string_in : List ℕ → Option (List ℕ)
string_in [] = None
string_in (b ∷ bytes) = if b == 34 then unquoted among bytes else None

-- pairs of hexadecimal digits up to a quote, which is the end
abbrev pub pairs : List ℕ → Option (List ℕ)
pairs [] = None
pairs (b ∷ []) = if b == 34 then Some [] else None
pairs (h ∷ l ∷ bytes) = if is_hex h && is_hex l then with_byte (16 * hex_value h + hex_value l) (pairs bytes) else None

abbrev pub binary_in : List ℕ → Option (List ℕ)
binary_in [] = None
binary_in (x ∷ []) = None
binary_in (x ∷ b ∷ bytes) = if (x == 120) && (b == 34) then pairs bytes else None

-- what a text says, if it is a literal
abbrev pub value_in : List ℕ → Option Value
value_in bytes = if same bytes (codes "null") then Some nothing else (if same bytes (codes "true") then Some (truth true) else (if same bytes (codes "false") then Some (truth false)
    else option_or (option_map number (number_in bytes)) (option_or (option_map text (string_in bytes)) (option_map raw (binary_in bytes)))))

-- a number from minus half up to half, which is left out
abbrev pub within : ℕ → ℤ → Bool
within half (pos n) = nat_lt n half
within half (negsuc n) = nat_lt n half

abbrev pub number_fits : Kind → ℤ → Bool
number_fits kind.Int8 n = within (half_of (width_of kind.Int8)) n
number_fits kind.Int16 n = within (half_of (width_of kind.Int16)) n
number_fits kind.Int32 n = within (half_of (width_of kind.Int32)) n
number_fits kind.Int64 n = within (half_of (width_of kind.Int64)) n
number_fits _ n = false

-- the most bytes of a cell
abbrev pub cell_bytes : ℕ
cell_bytes = 65536

abbrev pub short_bytes : List ℕ → Result Cell LiteralNo
short_bytes bytes = if nat_lt cell_bytes (length bytes) then Err no.Long else Ok (cell.Bytes bytes)

-- the cell that a literal is in a column of this kind, or the first reason why it is none
abbrev pub cell_under : Kind → Value → Result Cell LiteralNo
cell_under kind nothing = Err no.Null
cell_under kind.Bool (truth b) = Ok (cell.Bool b)
cell_under kind (truth b) = Err no.Kind
cell_under kind (number n) = if number_fits kind n then Ok (cell.Int n) else Err no.Kind
cell_under kind.String (text bytes) = short_bytes bytes
cell_under kind (text bytes) = Err no.Kind
cell_under kind.Binary (raw bytes) = short_bytes bytes
cell_under kind (raw bytes) = Err no.Kind

abbrev pub cell_or : Kind → Option Value → Result Cell LiteralNo
cell_or kind None = Err no.Form
cell_or kind (Some value) = cell_under kind value

abbrev pub cell_in : Kind → List ℕ → Result Cell LiteralNo
cell_in kind bytes = cell_or kind (value_in bytes)

-- a cell that a literal may spell in a column of this kind
abbrev pub fits : Kind → Cell → Bool
fits kind (cell.Int n) = number_fits kind n
fits kind.Bool (cell.Bool b) = true
fits kind.String (cell.Bytes bytes) = nat_le (length bytes) cell_bytes
fits kind.Binary (cell.Bytes bytes) = nat_le (length bytes) cell_bytes
fits kind c = false

-- want of memory aside, what is answered
abbrev pub Reads : Result Cell LiteralNo → Result Cell LiteralNo → Type 0
Reads (Ok c) read = read ≡ Ok c
Reads (Err no.Memory) read = Unit {0}
Reads (Err no.Form) read = read ≡ Err no.Form
Reads (Err no.Null) read = read ≡ Err no.Null
Reads (Err no.Kind) read = read ≡ Err no.Kind
Reads (Err no.Long) read = read ≡ Err no.Long

-- One step of reading between the quotes: read reads the bytes, and later those behind the step.
abbrev pub IsNext : (List ℕ → Option (List ℕ)) → (List ℕ → Option (List ℕ)) → List ℕ → Next → Type 0
IsNext read later bytes next.End = read bytes ≡ Some []
IsNext read later bytes (next.Byte b rest) = (read bytes ≡ with_byte b (later rest.now)) × (length rest.now < length bytes)
IsNext read later bytes next.Bad = read bytes ≡ None

-- the end of the line that begins at a place
pub record IsLineEnd (bytes : List ℕ) (from end : ℕ) : Type 0 where
  pub behind : from ≤ end
  pub newline : slice_get bytes end ≡ Some 10
  pub inside : All (λ b. b ≢ 10) (slice_range bytes from end)

-- a text of bytes
abbrev pub AreBytes : List ℕ → Type 0
AreBytes bytes = AllByRecursion (λ b. b < 256) bytes

-- the bytes of a cell are bytes
abbrev pub CellBytes : Cell → Type 0
CellBytes (cell.Bytes bytes) = AreBytes bytes
CellBytes c = Unit {0}

-- a cell of the kind, and of bytes, has the spelling
pub record SpellsCell (kind : Kind) (c : Cell) (bytes : List ℕ) : Type 0 where
  pub fit : fits kind c ≡ true
  pub of_bytes : CellBytes c
  pub spelled : bytes ≡ literal kind c

-- a text is read as the cell that it spells, and as no other
abbrev pub literals_are_read : Type 0
literals_are_read = (kind : Kind) (c : Cell) (bytes : List ℕ) → SpellsCell kind c bytes → cell_in kind bytes ≡ Ok c

-- what is read is spelled so
abbrev pub literals_are_spelled : Type 0
literals_are_spelled = (kind : Kind) (c : Cell) (bytes : List ℕ) → cell_in kind bytes ≡ Ok c → SpellsCell kind c bytes
