-- The one spelling of cells. Numbers are little-endian.
use Rattle.std.specs.Prelude.{ℕ, Bool, true, false, List, [], ◌∷◌, ◌++◌, length}
use Rattle.std.specs.List.{flat_map}
use Rattle.std.specs.Int.{w16, w32, w64, to_le_bytes, cast_unsigned}
use Rattle.kt_base.specs.declared.cell.Cell.{Cell}
use Rattle.kt_base.specs.declared.cell.Cell.TheVariants as cells

abbrev pub flag : Bool → ℕ
flag false = 0
flag true = 1

-- a cell: what it is, and its value
abbrev pub cell : Cell → List ℕ
cell cells.Null = 0 ∷ []
cell (cells.Bool b) = 1 ∷ flag b ∷ []
cell (cells.Int n) = 2 ∷ to_le_bytes w64 (cast_unsigned w64 n)
cell (cells.Bytes bytes) = 3 ∷ (to_le_bytes w32 (length bytes) ++ bytes)

-- a column's id and its cell
abbrev pub listed_cell : ℕ × Cell → List ℕ
listed_cell c = to_le_bytes w16 c.0 ++ cell c.1

-- their count, and the cells
abbrev pub cell_list : List (ℕ × Cell) → List ℕ
cell_list cells = to_le_bytes w16 (length cells) ++ flat_map listed_cell cells
