-- Encoded keys: bytes that compare as the key cells do, column by column.
-- A number is big-endian with its sign bit flipped. A text that is not last has each byte 00 as 00 01, and ends with 00 00.
use Rattle.std.specs.Prelude.{ℕ, Bool, true, false, suc, ◌+◌, ◌-◌, ◌*◌, ◌^◌, ℤ, pos, negsuc, ◌-ℤ◌, List, [], ◌∷◌, take, drop, if◌then◌else◌, ◌==◌}
use Rattle.std.specs.Int.{Width, w8, w16, w32, w64, byte_len, to_be_bytes, from_be_bytes}
use Rattle.kt_base.specs.declared.cell.Kind.{Kind}
use Rattle.kt_base.specs.declared.cell.Kind.TheVariants as kind
use Rattle.kt_base.specs.declared.cell.Cell.{Cell}
use Rattle.kt_base.specs.declared.cell.Cell.TheVariants as cell

-- how many bytes a number of this kind takes
abbrev pub width_of : Kind → Width
width_of kind.Int8 = w8
width_of kind.Int16 = w16
width_of kind.Int32 = w32
width_of _ = w64

-- a number as a distance from the least number of the width
abbrev pub raised : ℕ → ℤ → ℕ
raised half (pos n) = half + n
raised half (negsuc n) = half - suc n

-- half of the numbers of a width are negative
abbrev pub half_of : Width → ℕ
half_of w = 2 ^ (8 * byte_len w - 1)

abbrev pub number_key : Width → ℤ → List ℕ
number_key w n = to_be_bytes w (raised (half_of w) n)

abbrev pub number_of_key : Width → List ℕ → ℤ
number_of_key w bytes = pos (from_be_bytes w (take (byte_len w) bytes)) -ℤ pos (half_of w)

abbrev pub escaped : List ℕ → List ℕ
escaped [] = 0 ∷ 0 ∷ []
escaped (b ∷ bytes) = b ∷ (if b == 0 then 1 ∷ escaped bytes else escaped bytes)

-- the text before 00 00, and the bytes after it
abbrev pub unescaped : List ℕ → List ℕ
unescaped [] = []
unescaped (b ∷ []) = []
unescaped (b ∷ c ∷ bytes) = if b == 0 then (if c == 0 then [] else 0 ∷ unescaped bytes) else b ∷ unescaped (c ∷ bytes)

abbrev pub after_text : List ℕ → List ℕ
after_text [] = []
after_text (b ∷ []) = []
after_text (b ∷ c ∷ bytes) = if b == 0 then (if c == 0 then bytes else after_text bytes) else after_text (c ∷ bytes)

abbrev pub is_text : Kind → Bool
is_text kind.String = true
is_text kind.Binary = true
is_text _ = false

abbrev pub last_cell : Kind → List ℕ → Cell
last_cell kind bytes = if is_text kind then cell.Bytes bytes else cell.Int (number_of_key (width_of kind) bytes)

abbrev pub first_cell : Kind → List ℕ → Cell
first_cell kind bytes = if is_text kind then cell.Bytes (unescaped bytes) else cell.Int (number_of_key (width_of kind) bytes)

abbrev pub after_first : Kind → List ℕ → List ℕ
after_first kind bytes = if is_text kind then after_text bytes else drop (byte_len (width_of kind)) bytes

-- the key cells that the bytes spell, for key columns of these kinds
abbrev pub key_cells : List Kind → List ℕ → List Cell
key_cells [] bytes = []
key_cells (kind ∷ []) bytes = last_cell kind bytes ∷ []
key_cells (kind ∷ next ∷ kinds) bytes = first_cell kind bytes ∷ key_cells (next ∷ kinds) (after_first kind bytes)
