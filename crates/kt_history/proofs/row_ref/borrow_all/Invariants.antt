use Rattle.std.proofs.Common.{◌≡◌, take}
use Rattle.kt_cells.specs.Borrowed.{cells_in}
use Rattle.kt_history.proofs.row_ref.borrow_all.Given as goal

abbrev pub invariant-loop-cell : goal.invariant-loop-cell
invariant-loop-cell l = cells_in l.into.items ≡ take l.cell-index l.cells
