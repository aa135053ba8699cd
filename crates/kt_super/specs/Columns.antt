-- The columns of a superblock: their rules, their spelling, and how they are read.
use Rattle.std.specs.Prelude.{◌≡◌, ℕ, ◌+◌, ◌*◌, ◌/◌, ◌%◌, ◌^◌, ◌<◌, Bool, true, false, not, ◌&&◌, ◌||◌, ◌==◌, List, [], ◌∷◌, ◌++◌, length, Option, Some, None, is_some, IfSome, FitsSigned, Result, Ok, Err, nat_lt, nat_le, if◌then◌else◌}
use Rattle.std.specs.List.{count_by, flat_map, list_any, list_all}
use Rattle.std.specs.Ordering.{nat_cmp, is_eq}
use Rattle.std.specs.Cmp.Lexicographic.{slice_cmp}
use Rattle.std.specs.Int.{w8, w16, w32, w64, to_le_bytes, cast_signed, cast_unsigned}
use Rattle.kt_base.specs.declared.cell.Kind.{Kind}
use Rattle.kt_base.specs.declared.cell.Kind.TheVariants as kind
use Rattle.kt_base.specs.declared.cell.Cell.{Cell}
use Rattle.kt_base.specs.declared.cell.Cell.TheVariants as cell
use Rattle.kt_schema.specs.declared.column.Column.{Column}
use Rattle.kt_bytes.specs.Reading.{◌>>=◌, number_at, checked_at, bytes_at, many_at}

-- ---- rules

abbrev pub has_id : List Column → ℕ → Bool
has_id earlier id = list_any (λ d. d.id == id) earlier

abbrev pub has_name : List Column → List ℕ → Bool
has_name earlier name = list_any (λ d. is_eq (slice_cmp nat_cmp name d.name)) earlier

-- the id of a column that is not taken
abbrev pub is_free_id : ℕ → List Column → ℕ → Bool
is_free_id next earlier id = nat_lt id next && not (has_id earlier id)

abbrev pub is_bool : Kind → Bool
is_bool kind.Bool = true
is_bool _ = false

-- Key columns come first, and at least one: they take no null, and are not of truth values.
abbrev pub may_stand : List Column → Kind → Bool → Bool → Bool
may_stand earlier kind key nullable = if key then not nullable && not (is_bool kind) && list_all (λ d. d.key) earlier else not (length earlier == 0)

-- a cell that has a spelling
abbrev pub FitsCell : Cell → Type 0
FitsCell (cell.Int z) = FitsSigned w64 z
FitsCell (cell.Bytes bytes) = length bytes < 2 ^ 32
FitsCell _ = Unit {0}

pub record IsColumn (next : ℕ) (earlier : List Column) (c : Column) : Type 0 where
  pub id : is_free_id next earlier c.id ≡ true
  pub name : has_name earlier c.name ≡ false
  pub name_len : length c.name < 2 ^ 8
  pub flags : may_stand earlier c.kind c.key c.nullable ≡ true
  pub default : IfSome c.default FitsCell

-- how many columns a superblock may have
abbrev pub is_count : ℕ → Bool
is_count n = nat_le 1 n && nat_le n 300

-- columns behind these, with ids and names of their own
abbrev pub AreColumns : ℕ → List Column → List Column → Type 0
AreColumns next earlier [] = Unit {0}
AreColumns next earlier (c ∷ columns) = IsColumn next earlier c × AreColumns next (earlier ++ c ∷ []) columns

-- ---- spelling

abbrev pub kind_number : Kind → ℕ
kind_number kind.Bool = 1
kind_number kind.Int8 = 2
kind_number kind.Int16 = 3
kind_number kind.Int32 = 4
kind_number kind.Int64 = 5
kind_number kind.String = 6
kind_number kind.Binary = 7

abbrev pub bit : Bool → ℕ
bit b = if b then 1 else 0

abbrev pub flags_of : Column → ℕ
flags_of c = bit c.key + 2 * bit c.nullable + 4 * bit (is_some c.default)

abbrev pub spelled_cell : Cell → List ℕ
spelled_cell cell.Null = to_le_bytes w8 0
spelled_cell (cell.Bool b) = to_le_bytes w8 1 ++ to_le_bytes w8 (bit b)
spelled_cell (cell.Int z) = to_le_bytes w8 2 ++ to_le_bytes w64 (cast_unsigned w64 z)
spelled_cell (cell.Bytes bytes) = to_le_bytes w8 3 ++ (to_le_bytes w32 (length bytes) ++ bytes)

abbrev pub spelled_default : Option Cell → List ℕ
spelled_default None = []
spelled_default (Some c) = spelled_cell c

abbrev pub spelled_name : List ℕ → List ℕ
spelled_name name = to_le_bytes w8 (length name) ++ name

abbrev pub spelled_column : Column → List ℕ
spelled_column c = to_le_bytes w16 c.id ++ (spelled_name c.name ++ (to_le_bytes w8 (kind_number c.kind) ++ (to_le_bytes w8 (flags_of c) ++ spelled_default c.default)))

abbrev pub spelled_columns : List Column → List ℕ
spelled_columns columns = to_le_bytes w16 (length columns) ++ flat_map spelled_column columns

-- ---- what can stand where

-- so many columns have ids below the next one
abbrev pub may_have : ℕ → ℕ → Bool
may_have next n = is_count n && nat_le n next

-- how many names of so many bytes are taken
abbrev pub names_of : List Column → ℕ → ℕ
names_of earlier n = count_by (λ d. length d.name == n) earlier

-- a name of so many bytes is free: there is one of no byte, there are 256 of one byte, and of more bytes more than columns
abbrev pub has_free_name : List Column → ℕ → Bool
has_free_name earlier n = nat_le 2 n || nat_lt (names_of earlier n) (if n == 0 then 1 else 256)

abbrev pub is_kind : ℕ → Bool
is_kind n = nat_le 1 n && nat_le n 7

-- the kind of a column behind these: the first is a key, which is not of truth values
abbrev pub may_be : List Column → ℕ → Bool
may_be earlier n = is_kind n && (nat_lt 1 n || not (length earlier == 0))

abbrev pub kind_of : ℕ → Kind
kind_of n =
    if n == 1 then kind.Bool else if n == 2 then kind.Int8 else if n == 3 then kind.Int16 else if n == 4 then kind.Int32
    else if n == 5 then kind.Int64 else if n == 6 then kind.String else kind.Binary

abbrev pub is_key : ℕ → Bool
is_key flags = flags % 2 == 1

abbrev pub is_nullable : ℕ → Bool
is_nullable flags = flags / 2 % 2 == 1

abbrev pub has_default : ℕ → Bool
has_default flags = flags / 4 == 1

abbrev pub are_flags : List Column → Kind → ℕ → Bool
are_flags earlier kind flags = nat_lt flags 8 && may_stand earlier kind (is_key flags) (is_nullable flags)

abbrev pub is_tag : ℕ → Bool
is_tag n = nat_lt n 4

abbrev pub is_bit : ℕ → Bool
is_bit n = nat_lt n 2

-- ---- reading

unfoldable pub text_at : List ℕ → Result (List ℕ × List ℕ) ℕ
text_at bytes = do
  n ← number_at w32 bytes
  bytes_at n.0 n.1

unfoldable pub cell_by : ℕ → List ℕ → Result (Cell × List ℕ) ℕ
cell_by tag bytes =
    if tag == 0 then Ok (cell.Null, bytes)
    else if tag == 1 then (checked_at w8 is_bit bytes >>= λ b. Ok (cell.Bool (b.0 == 1), b.1))
    else if tag == 2 then (number_at w64 bytes >>= λ z. Ok (cell.Int (cast_signed w64 z.0), z.1))
    else (text_at bytes >>= λ t. Ok (cell.Bytes t.0, t.1))

unfoldable pub cell_at : List ℕ → Result (Cell × List ℕ) ℕ
cell_at bytes = do
  tag ← checked_at w8 is_tag bytes
  cell_by tag.0 tag.1

unfoldable pub default_at : ℕ → List ℕ → Result (Option Cell × List ℕ) ℕ
default_at flags bytes = if has_default flags then (cell_at bytes >>= λ c. Ok (Some c.0, c.1)) else Ok (None, bytes)

-- a name that is not taken
unfoldable pub name_at : List Column → List ℕ → Result (List ℕ × List ℕ) ℕ
name_at earlier bytes = do
  n ← checked_at w8 (has_free_name earlier) bytes
  name ← bytes_at n.0 n.1
  if has_name earlier name.0 then Err (length n.1) else Ok name

unfoldable pub column_at : ℕ → List Column → List ℕ → Result (Column × List ℕ) ℕ
column_at next earlier bytes = do
  id ← checked_at w16 (is_free_id next earlier) bytes
  name ← name_at earlier id.1
  kind ← checked_at w8 (may_be earlier) name.1
  flags ← checked_at w8 (are_flags earlier (kind_of kind.0)) kind.1
  default ← default_at flags.0 flags.1
  Ok (record { id = id.0; name = name.0; kind = kind_of kind.0; key = is_key flags.0; nullable = is_nullable flags.0; default = default.0 }, default.1)

unfoldable pub counted_columns_at : ℕ → List ℕ → Result (List Column × List ℕ) ℕ
counted_columns_at next bytes = do
  n ← checked_at w16 (may_have next) bytes
  many_at (column_at next) n.0 [] n.1
