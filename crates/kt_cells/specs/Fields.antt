-- The fields of cells, one behind the other.
use Rattle.std.specs.Prelude.{ℕ, List, [], ◌∷◌, length}
use Rattle.std.specs.List.{flat_map}
use Rattle.std.specs.Int.{w16, w32, w64, to_le_bytes, cast_unsigned}
use Rattle.kt_base.specs.declared.cell.Cell.{Cell}
use Rattle.kt_base.specs.declared.cell.Cell.TheVariants as cells
use Rattle.kt_cells.specs.Spelling.{flag}

-- a cell: what it is, and its value
abbrev pub cell_fields : Cell → List (List ℕ)
cell_fields cells.Null = (0 ∷ []) ∷ []
cell_fields (cells.Bool b) = (1 ∷ []) ∷ (flag b ∷ []) ∷ []
cell_fields (cells.Int n) = (2 ∷ []) ∷ to_le_bytes w64 (cast_unsigned w64 n) ∷ []
cell_fields (cells.Bytes bytes) = (3 ∷ []) ∷ to_le_bytes w32 (length bytes) ∷ bytes ∷ []

-- a column's id and its cell
abbrev pub listed_cell_fields : ℕ × Cell → List (List ℕ)
listed_cell_fields c = to_le_bytes w16 c.0 ∷ cell_fields c.1

-- their count, and the cells
abbrev pub cell_list_fields : List (ℕ × Cell) → List (List ℕ)
cell_list_fields cells = to_le_bytes w16 (length cells) ∷ flat_map listed_cell_fields cells
