use Rattle.std.proofs.Common.{◌≡◌, ◌++◌, length}
use Rattle.kt_cells.specs.Borrowed.{cells_in_ref}
use Rattle.kt_merge.proofs.changes.cells_of.Given as goal

abbrev pub invariant-cells : goal.invariant-cells
invariant-cells l = l.copies.items ++ cells_in_ref l.rest ≡ cells_in_ref l.cells

abbrev pub decreases-cells : goal.decreases-cells
decreases-cells l = length (cells_in_ref l.rest)
