-- The bytes of a base file. Numbers are little-endian.
use Rattle.std.specs.Prelude.{◌≡◌, ℕ, Bool, List, [], ◌∷◌, ◌++◌, length, if◌then◌else◌}
use Rattle.std.specs.Int.{w16, w32, to_le_bytes}
use Rattle.kt_base.specs.declared.cell.Kind.{Kind}
use Rattle.kt_base.specs.declared.cell.Kind.TheVariants as kinds
use Rattle.kt_column.specs.declared.form.Form.TheVariants.{Keys}
use Rattle.kt_column.specs.Columns.{SpellsColumn}
use Rattle.kt_lookup.specs.Filter.{filter_of}
use Rattle.kt_lookup.specs.Index.{index_of}
use Rattle.kt_lookup.specs.Tail as lookup
use Rattle.kt_baseset.specs.declared.schema.ColumnShape.{ColumnShape}
use Rattle.kt_baseset.specs.declared.rows.KeyedRow.{KeyedRow}
use Rattle.kt_baseset.specs.declared.held.HeldColumn.{HeldColumn}
use Rattle.kt_baseset.specs.Rows.{keys_in, IsBase}
use Rattle.kt_baseset.specs.Tables.{columns_of, key_cells}

-- the letters KTB1, as a number
abbrev pub ktb1 : ℕ
ktb1 = 0x3142544b

-- the number of a kind
abbrev pub kind_number : Kind → ℕ
kind_number kinds.Bool = 1
kind_number kinds.Int8 = 2
kind_number kinds.Int16 = 3
kind_number kinds.Int32 = 4
kind_number kinds.Int64 = 5
kind_number kinds.String = 6
kind_number kinds.Binary = 7

abbrev pub flag_number : Bool → ℕ
flag_number b = if b then 1 else 0

-- what a column is: its id, its kind and whether it may be null
abbrev pub shape_bytes : ColumnShape → List ℕ
shape_bytes c = to_le_bytes w16 c.id ++ (kind_number c.kind ∷ flag_number c.nullable ∷ [])

-- a column: what it is, and its blocks
pub record SpellsOne (c : HeldColumn) (bytes : List ℕ) : Type 0 where
  pub blocks : List ℕ
  pub spelled : SpellsColumn c.column.form c.column.cells blocks
  pub parts : bytes ≡ shape_bytes c.shape ++ blocks

-- columns, one after another
abbrev pub SpellsEach : List HeldColumn → List ℕ → Type 0
SpellsEach [] bytes = bytes ≡ []
SpellsEach (c ∷ cs) bytes = (front : List ℕ) × (rest : List ℕ) × SpellsOne c front × SpellsEach cs rest × (bytes ≡ front ++ rest)

-- the columns behind their count
pub record SpellsColumns (columns : List HeldColumn) (bytes : List ℕ) : Type 0 where
  pub each : List ℕ
  pub spelled : SpellsEach columns each
  pub parts : bytes ≡ to_le_bytes w16 (length columns) ++ each

-- the letters KTB1, how many rows there are, and the blocks of the keys
pub record SpellsKeys (keys : List (List ℕ)) (bytes : List ℕ) : Type 0 where
  pub blocks : List ℕ
  pub spelled : SpellsColumn Keys (key_cells keys) blocks
  pub parts : bytes ≡ to_le_bytes w32 ktb1 ++ (to_le_bytes w32 (length keys) ++ blocks)

-- the filter of the keys behind its length, and each key of their index behind its length
abbrev pub lookup_bytes : List (List ℕ) → List ℕ
lookup_bytes keys = lookup.spelling (filter_of keys) (index_of keys)

-- the keys, the columns, the filter and the index
pub record SpellsTable (keys : List (List ℕ)) (columns : List HeldColumn) (bytes : List ℕ) : Type 0 where
  pub front : List ℕ
  pub middle : List ℕ
  pub of_keys : SpellsKeys keys front
  pub of_columns : SpellsColumns columns middle
  pub parts : bytes ≡ front ++ (middle ++ lookup_bytes keys)

-- the bytes are those of a base file with these columns and rows
pub record SpellsBase (schema : List ColumnShape) (rows : List KeyedRow) (bytes : List ℕ) : Type 0 where
  pub fits : IsBase schema rows
  pub spelled : SpellsTable (keys_in rows) (columns_of schema rows) bytes

-- ---- added behind some bytes

abbrev pub AddsOne : List ℕ → HeldColumn → List ℕ → Type 0
AddsOne old c new = (bytes : List ℕ) × SpellsOne c bytes × (new ≡ old ++ bytes)

abbrev pub AddsEach : List ℕ → List HeldColumn → List ℕ → Type 0
AddsEach old columns new = (bytes : List ℕ) × SpellsEach columns bytes × (new ≡ old ++ bytes)

abbrev pub AddsColumns : List ℕ → List HeldColumn → List ℕ → Type 0
AddsColumns old columns new = (bytes : List ℕ) × SpellsColumns columns bytes × (new ≡ old ++ bytes)
