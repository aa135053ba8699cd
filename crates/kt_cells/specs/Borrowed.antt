-- What borrowed cells stand for.
use Rattle.std.specs.Prelude.{ℕ, List, map}
use Rattle.kt_base.specs.declared.cell.Cell.{Cell}
use Rattle.kt_base.specs.declared.cell_ref.CellRef.{CellRef}
use Rattle.kt_base.specs.Borrowed.{cell_in}
use Rattle.kt_cells.specs.declared.cells_ref.CellsRef.{CellsRef}
use Rattle.kt_cells.specs.Reading.{cells_from}

-- the cells of a row, each under its column
abbrev pub cells_in : List (ℕ × CellRef) → List (ℕ × Cell)
cells_in cells = map (λ c. (c.0, cell_in c.1)) cells

-- the cells that are read where they lie
abbrev pub cells_in_ref : CellsRef → List (ℕ × Cell)
cells_in_ref c = cells_from c.left c.bytes.now
