use Rattle.std.proofs.Common.{◌≡◌, length}
use Rattle.kt_history.specs.Rows.{with_cells}
use Rattle.kt_judge.proofs.writes.with_cells.Given as goal

-- the cells that are left, in the row so far
abbrev pub invariant-cells : goal.invariant-cells
invariant-cells l = with_cells l.left.items l.new.items ≡ with_cells l.fn.cells l.fn.row

abbrev pub decreases-cells : goal.decreases-cells
decreases-cells l = length l.left.items
