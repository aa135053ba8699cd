use Rattle.std.proofs.Common.{◌≡◌, ◌++◌, length}
use Rattle.kt_cells.specs.Borrowed.{cells_in_ref}
use Rattle.kt_judge.proofs.writes.cells_of.Given as goal

-- the cells so far, and those that are left
abbrev pub invariant-cells : goal.invariant-cells
invariant-cells l = l.cells.items ++ cells_in_ref l.rest ≡ l.op.cells

abbrev pub decreases-cells : goal.decreases-cells
decreases-cells l = length (cells_in_ref l.rest)
