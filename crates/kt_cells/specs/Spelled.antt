-- Bytes that spell cells behind their count.
use Rattle.std.specs.Prelude.{◌≡◌, ℕ, List}
use Rattle.kt_cells.specs.Spelling.{cell_list}
use Rattle.kt_cells.specs.Rules.{CellListFits}
use Rattle.kt_cells.specs.Reading.{cells_behind}

-- the cells that are read behind the count have a spelling, and it is these bytes
pub record SpellsCells (bytes : List ℕ) : Type 0 where
  pub fits : CellListFits (cells_behind bytes)
  pub is : bytes ≡ cell_list (cells_behind bytes)
