-- Rows as columns, and columns as rows.
use Rattle.std.specs.Prelude.{◌≡◌, ◌<◌, ◌+◌, ◌-◌, ◌*◌, ◌==◌, ℕ, suc, min, List, [], ◌∷◌, length, map, All, slice_index_or, if◌then◌else◌}
use Rattle.std.specs.List.{range_with_len}
use Rattle.kt_base.specs.declared.cell.Cell.{Cell}
use Rattle.kt_base.specs.declared.cell.Cell.TheVariants as cells
use Rattle.kt_column.specs.Blocks.{IsCell}
use Rattle.kt_column.specs.Columns.{ColumnValue}
use Rattle.kt_column.specs.declared.form.Form.TheVariants.{Keys}
use Rattle.kt_lookup.specs.Filter.{filter_of}
use Rattle.kt_lookup.specs.Index.{index_of}
use Rattle.kt_lookup.specs.Tables.{Tables}
use Rattle.kt_baseset.specs.declared.schema.ColumnShape.{ColumnShape}
use Rattle.kt_baseset.specs.declared.rows.KeyedRow.{KeyedRow}
use Rattle.kt_baseset.specs.declared.held.HeldColumn.{HeldColumn}
use Rattle.kt_baseset.specs.Rows.{AreKeys, AreShapes, form_of}

-- what a base set is: its columns, and its rows by key
pub record BaseValue : Type 0 where
  pub schema : List ColumnShape
  pub rows : List KeyedRow

-- the key and the cells of the row at a place
abbrev pub no_row : KeyedRow
no_row = record { key = []; cells = [] }

abbrev pub key_at : List KeyedRow → ℕ → List ℕ
key_at rows i = (slice_index_or rows i no_row).key

abbrev pub cells_in : List KeyedRow → ℕ → List (ℕ × Cell)
cells_in rows i = (slice_index_or rows i no_row).cells

-- the cell at a place of a row
abbrev pub cell_at : ℕ → List (ℕ × Cell) → Cell
cell_at j row = (slice_index_or row j (0, cells.Null)).1

abbrev pub cells_at : ℕ → List KeyedRow → List Cell
cells_at j rows = map (λ (row : KeyedRow). cell_at j row.cells) rows

-- the column whose cells stand at a place of each row
abbrev pub column_at : ColumnShape → ℕ → List KeyedRow → HeldColumn
column_at shape j rows = record { shape = shape; column = record { form = form_of shape; cells = cells_at j rows } }

-- the columns of rows, from a place on
abbrev pub columns_from : ℕ → List ColumnShape → List KeyedRow → List HeldColumn
columns_from j [] rows = []
columns_from j (shape ∷ schema) rows = column_at shape j rows ∷ columns_from (suc j) schema rows

abbrev pub columns_of : List ColumnShape → List KeyedRow → List HeldColumn
columns_of schema rows = columns_from 0 schema rows

-- and back: what each column is, and its cell in each row
abbrev pub shapes_of : List HeldColumn → List ColumnShape
shapes_of columns = map (λ (c : HeldColumn). c.shape) columns

abbrev pub row_at : List HeldColumn → ℕ → List (ℕ × Cell)
row_at columns i = map (λ (c : HeldColumn). (c.shape.id, slice_index_or c.column.cells i cells.Null)) columns

abbrev pub rows_of : List (List ℕ) → List HeldColumn → List KeyedRow
rows_of keys columns = map (λ i. record { key = slice_index_or keys i []; cells = row_at columns i }) (range_with_len 0 (length keys))

-- the keys as cells, and the bytes of such cells
abbrev pub key_cells : List (List ℕ) → List Cell
key_cells keys = map cells.Bytes keys

abbrev pub bytes_of : Cell → List ℕ
bytes_of (cells.Bytes bytes) = bytes
bytes_of _ = []

abbrev pub keys_of : List Cell → List (List ℕ)
keys_of cs = map bytes_of cs

-- the row has a cell at the place
abbrev pub HasPlace : ℕ → KeyedRow → Type 0
HasPlace j row = j < length row.cells

-- a column of so many rows
pub record IsColumn (rows : ℕ) (c : HeldColumn) : Type 0 where
  pub form : c.column.form ≡ form_of c.shape
  pub count : length c.column.cells ≡ rows
  pub cells : All (IsCell (form_of c.shape)) c.column.cells

-- columns by rising id, each of so many rows
pub record AreColumns (rows : ℕ) (columns : List HeldColumn) : Type 0 where
  pub shapes : AreShapes (shapes_of columns)
  pub each : All (IsColumn rows) columns

-- the column has a cell for the row at the place
abbrev pub HasCells : ℕ → HeldColumn → Type 0
HasCells i c = i < length c.column.cells

-- a column of keys, each of which is a byte list
pub record AreTexts (held : ColumnValue) : Type 0 where
  pub form : held.form ≡ Keys
  pub texts : held.cells ≡ key_cells (keys_of held.cells)

-- the filter and the index of the keys
pub record IsLookup (keys : List (List ℕ)) (lookup : Tables) : Type 0 where
  pub filter : lookup.filter ≡ filter_of keys
  pub index : lookup.index ≡ index_of keys

-- the keys behind an entry of the index, up to the next entry's own
abbrev pub stretch_start : ℕ → ℕ
stretch_start entry = if entry == 0 then 0 else 16 * (entry - 1) + 1

abbrev pub stretch_end : ℕ → ℕ → ℕ
stretch_end entry rows = min rows (16 * entry + 1)

-- what a base set holds: keys, columns of as many cells, and the filter and the index of the keys
pub record IsHeld (held : ColumnValue) (columns : List HeldColumn) (lookup : Tables) : Type 0 where
  pub texts : AreTexts held
  pub keys : AreKeys (keys_of held.cells)
  pub each : AreColumns (length (keys_of held.cells)) columns
  pub own : IsLookup (keys_of held.cells) lookup
