use Rattle.std.proofs.Common.{◌≡◌, ◌≤◌, length, drop}
use Rattle.kt_cells.specs.Borrowed.{cells_in}
use Rattle.kt_history.specs.Rows.{with_cells}
use Rattle.kt_history.proofs.row_ref.put_all.Given as goal

-- the cells from here on are in the row
abbrev pub invariant-cells : goal.invariant-cells
invariant-cells l = record { below : l.at ≤ length l.more; made : cells_in l.cells.items ≡ with_cells (cells_in (drop l.at l.more)) (cells_in l.initial.cells.items) }

abbrev pub decreases-cells : goal.decreases-cells
decreases-cells l = l.at
