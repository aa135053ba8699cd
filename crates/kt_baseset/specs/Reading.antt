-- Reading a base file from left to right. A fault is told by how many bytes stand from its place to the end: none
-- where bytes are missing, and all from its first byte on where a field is wrong as a whole.
use Rattle.std.specs.Prelude.{◌≡◌, ℕ, zero, suc, ◌+◌, ◌-◌, ◌^◌, ◌<◌, ◌≤◌, ◌&&◌, ◌==◌, nat_lt, nat_le, Bool, List, [], ◌∷◌, ◌++◌, length, Result, Ok, Err, if◌then◌else◌}
use Rattle.std.specs.Int.{w16, w32}
use Rattle.kt_base.specs.declared.cell.Kind.{Kind}
use Rattle.kt_base.specs.declared.cell.Kind.TheVariants as kinds
use Rattle.kt_bytes.specs.declared.fault.Stop.{Stop}
use Rattle.kt_bytes.specs.declared.fault.Stop.TheVariants as stops
use Rattle.kt_bytes.specs.Reading.{◌>>=◌, number_at, checked_at}
use Rattle.kt_cells.specs.Reading.{flag_at}
use Rattle.kt_column.specs.declared.errors.CodecNo.TheVariants as column
use Rattle.kt_column.specs.declared.form.Form.{Form}
use Rattle.kt_column.specs.Columns.{IsColumnRefusal}
use Rattle.kt_column.specs.Keys.{IsRisingRefusal}
use Rattle.kt_lookup.specs.Filter.{filter_of}
use Rattle.kt_lookup.specs.Index.{index_of}
use Rattle.kt_lookup.specs.Tail.{used_of}
use Rattle.kt_baseset.specs.declared.errors.CodecNo.{CodecNo}
use Rattle.kt_baseset.specs.declared.errors.CodecNo.TheVariants as answers
use Rattle.kt_baseset.specs.declared.schema.ColumnShape.{ColumnShape}
use Rattle.kt_baseset.specs.declared.held.HeldColumn.{HeldColumn}
use Rattle.kt_baseset.specs.Rows.{AreKeys, form_of}
use Rattle.kt_baseset.specs.Tables.{shapes_of, IsColumn, AreColumns}
use Rattle.kt_baseset.specs.Spelling.{ktb1, SpellsKeys, SpellsOne, SpellsEach, SpellsColumns, lookup_bytes}

-- ---- fields of fixed length: a value and the bytes after it. The fields of a front tell the place of a fault by
-- themselves; these are the steps that find it.

-- whether a base file may have so many rows
abbrev pub may_have : ℕ → Bool
may_have n = nat_le 1 n && nat_le n 3435973836

abbrev pub is_ktb1 : ℕ → Bool
is_ktb1 word = word == ktb1

-- the letters KTB1, and how many rows there are
unfoldable pub rows_at : List ℕ → Result (ℕ × List ℕ) ℕ
rows_at bytes = do
  word ← checked_at w32 is_ktb1 bytes
  checked_at w32 may_have word.1

unfoldable pub kind_at : List ℕ → Result (Kind × List ℕ) ℕ
kind_at [] = Err 0
kind_at (zero ∷ rest) = Err (suc (length rest))
kind_at (suc zero ∷ rest) = Ok (kinds.Bool, rest)
kind_at (suc (suc zero) ∷ rest) = Ok (kinds.Int8, rest)
kind_at (suc (suc (suc zero)) ∷ rest) = Ok (kinds.Int16, rest)
kind_at (suc (suc (suc (suc zero))) ∷ rest) = Ok (kinds.Int32, rest)
kind_at (suc (suc (suc (suc (suc zero)))) ∷ rest) = Ok (kinds.Int64, rest)
kind_at (suc (suc (suc (suc (suc (suc zero))))) ∷ rest) = Ok (kinds.String, rest)
kind_at (suc (suc (suc (suc (suc (suc (suc zero)))))) ∷ rest) = Ok (kinds.Binary, rest)
kind_at (suc (suc (suc (suc (suc (suc (suc (suc b))))))) ∷ rest) = Err (suc (length rest))

-- an id that is not below the least one, and leaves ids for so many columns more
abbrev pub is_id : ℕ → ℕ → ℕ → Bool
is_id least more id = nat_le least id && nat_lt (id + more) (2 ^ 16)

-- such an id, a kind and whether the column may be null
unfoldable pub shape_at : ℕ → ℕ → List ℕ → Result (ColumnShape × List ℕ) ℕ
shape_at least more bytes = do
  id ← checked_at w16 (is_id least more) bytes
  kind ← kind_at id.1
  nullable ← flag_at kind.1
  Ok (record { id = id.0; kind = kind.0; nullable = nullable.0 }, nullable.1)

-- ---- what is read: the bytes begin with a spelling, and the rest stands behind it

-- the letters, the number of rows and the keys
pub record ReadsKeys (bytes : List ℕ) (keys : List (List ℕ)) (rest : List ℕ) : Type 0 where
  pub are : AreKeys keys
  pub front : List ℕ
  pub spelled : SpellsKeys keys front
  pub parts : bytes ≡ front ++ rest

-- a column of so many rows, whose id is not below the least one
pub record ReadsOne (rows least : ℕ) (bytes : List ℕ) (c : HeldColumn) (rest : List ℕ) : Type 0 where
  pub is : IsColumn rows c
  pub above : least ≤ c.shape.id
  pub fit : c.shape.id < 2 ^ 16
  pub front : List ℕ
  pub spelled : SpellsOne c front
  pub parts : bytes ≡ front ++ rest

-- so many columns
pub record ReadsEach (rows n : ℕ) (bytes : List ℕ) (columns : List HeldColumn) (rest : List ℕ) : Type 0 where
  pub are : AreColumns rows columns
  pub count : length columns ≡ n
  pub front : List ℕ
  pub spelled : SpellsEach columns front
  pub parts : bytes ≡ front ++ rest

-- the least id that may follow these columns
abbrev pub next_id : ℕ → List ColumnShape → ℕ
next_id least [] = least
next_id least (c ∷ cs) = next_id (c.id + 1) cs

-- some of n columns, which leave ids for the others
pub record ReadsSome (rows n : ℕ) (bytes : List ℕ) (columns : List HeldColumn) (rest : List ℕ) : Type 0 where
  pub read : ReadsEach rows (length columns) bytes columns rest
  pub some : length columns < n
  pub room : next_id 0 (shapes_of columns) + (n - length columns) ≤ 2 ^ 16

-- columns behind their count
pub record ReadsColumns (rows : ℕ) (bytes : List ℕ) (columns : List HeldColumn) (rest : List ℕ) : Type 0 where
  pub are : AreColumns rows columns
  pub front : List ℕ
  pub spelled : SpellsColumns columns front
  pub parts : bytes ≡ front ++ rest

-- ---- faults

-- a column of so many rows is refused at a place of the bytes
pub record IsRefusedAt (form : Form) (rows : ℕ) (bytes : List ℕ) (left : ℕ) : Type 0 where
  pub at : ℕ
  pub why : IsColumnRefusal form rows bytes (column.Place at)
  pub place : left ≡ length bytes - at

-- keys that rise, of so many rows, are refused at a place of the bytes
pub record AreRefusedAt (rows : ℕ) (bytes : List ℕ) (left : ℕ) : Type 0 where
  pub at : ℕ
  pub why : IsRisingRefusal rows bytes (column.Place at)
  pub place : left ≡ length bytes - at

-- of the first fields and the keys
pub data IsKeysFault (bytes : List ℕ) (left : ℕ) : Type 0 where
  in_rows : rows_at bytes ≡ Err left → IsKeysFault bytes left
  in_keys : (n : ℕ) (rest : List ℕ) → rows_at bytes ≡ Ok (n, rest) → AreRefusedAt n rest left → IsKeysFault bytes left

-- of a column with so many behind it: what it is, or its blocks
pub data IsOneFault (rows least more : ℕ) (bytes : List ℕ) (left : ℕ) : Type 0 where
  in_shape : shape_at least more bytes ≡ Err left → IsOneFault rows least more bytes left
  in_blocks : (shape : ColumnShape) (rest : List ℕ) → shape_at least more bytes ≡ Ok (shape, rest) → IsRefusedAt (form_of shape) rows rest left → IsOneFault rows least more bytes left

-- of columns: some stand, and behind them the next one is at fault
pub record IsEachFault (rows n : ℕ) (bytes : List ℕ) (left : ℕ) : Type 0 where
  pub columns : List HeldColumn
  pub rest : List ℕ
  pub stand : ReadsSome rows n bytes columns rest
  pub next : IsOneFault rows (next_id 0 (shapes_of columns)) (n - length columns - 1) rest left

-- of the columns behind their count
pub data IsColumnsFault (rows : ℕ) (bytes : List ℕ) (left : ℕ) : Type 0 where
  in_count : number_at w16 bytes ≡ Err left → IsColumnsFault rows bytes left
  in_each : (n : ℕ) (rest : List ℕ) → number_at w16 bytes ≡ Ok (n, rest) → IsEachFault rows n rest left → IsColumnsFault rows bytes left

-- of the filter and the index, of which each field is the keys' own, or of bytes behind them
pub data IsLookupFault (keys : List (List ℕ)) (bytes : List ℕ) (left : ℕ) : Type 0 where
  in_field : (at : ℕ) → used_of (filter_of keys) (index_of keys) bytes ≡ Err at → left ≡ length bytes - at → IsLookupFault keys bytes left
  behind : (rest : List ℕ) → bytes ≡ lookup_bytes keys ++ rest → 0 < length rest → left ≡ length rest → IsLookupFault keys bytes left

-- the first fault of bytes that are no base file
pub data IsFault (bytes : List ℕ) (left : ℕ) : Type 0 where
  of_keys : IsKeysFault bytes left → IsFault bytes left
  of_columns : (keys : List (List ℕ)) (rest : List ℕ) → ReadsKeys bytes keys rest → IsColumnsFault (length keys) rest left → IsFault bytes left
  of_lookup : (keys : List (List ℕ)) (rest : List ℕ) (columns : List HeldColumn) (last : List ℕ) → ReadsKeys bytes keys rest → ReadsColumns (length keys) rest columns last → IsLookupFault keys last left → IsFault bytes left

-- reading stopped there, unless memory ran out
abbrev pub Stops : (ℕ → Type 0) → Stop → Type 0
Stops Fault stops.Memory = Unit {0}
Stops Fault (stops.Left left) = Fault left

-- the answer of a decoder without a base file: the offset of the first fault, unless memory ran out
abbrev pub IsRefusal : List ℕ → CodecNo → Type 0
IsRefusal bytes answers.Memory = Unit {0}
IsRefusal bytes (answers.Place offset) = (left : ℕ) × IsFault bytes left × (offset ≡ length bytes - left)
