use Rattle.std.proofs.Common.{◌≡◌, ◌≤◌, length, drop}
use Rattle.kt_history.specs.Rows.{with_cells}
use Rattle.kt_history.proofs.row_ref.RowRef.set_all.Given as goal

-- the cells from here on are in the row
abbrev pub invariant-cells : goal.invariant-cells
invariant-cells l = record { below : l.at ≤ length l.cells; made : l.self ≡ with_cells (drop l.at l.cells) l.initial.self }

abbrev pub decreases-cells : goal.decreases-cells
decreases-cells l = l.at
