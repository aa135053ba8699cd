use Rattle.std.proofs.Common.{◌≡◌, ◌++◌, length}
use Rattle.kt_cells.specs.Borrowed.{cells_in_ref}
use Rattle.kt_engine.proofs.filled.read_cells.Given as goal

-- what was read, and what is left, are the cells
abbrev pub invariant-cells : goal.invariant-cells
invariant-cells l = l.row ++ cells_in_ref l.rest ≡ cells_in_ref l.cells

abbrev pub decreases-cells : goal.decreases-cells
decreases-cells l = length (cells_in_ref l.rest)
