-- The cells of a row in some columns alone.
use Rattle.std.specs.Prelude.{ℕ, List, map, unwrap_or}
use Rattle.std.specs.Ordering.{nat_cmp}
use Rattle.std.specs.FinMap.Entries.{find}
use Rattle.kt_base.specs.declared.cell.Cell.{Cell}

-- a row's cell in a column, and where it has none the one that is named with the column
abbrev pub cell_asked : List (ℕ × Cell) → ℕ × Cell → Cell
cell_asked row column = unwrap_or (find nat_cmp column.0 row) column.1

-- its cells in these columns, in their order
abbrev pub cells_asked : List (ℕ × Cell) → List (ℕ × Cell) → List Cell
cells_asked columns row = map (cell_asked row) columns
