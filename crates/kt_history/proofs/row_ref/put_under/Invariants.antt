use Rattle.std.proofs.Common.{length}
use Rattle.kt_cells.specs.Borrowed.{cells_in_ref}
use Rattle.kt_history.proofs.Covering.{LiesOver}
use Rattle.kt_history.proofs.row_ref.put_under.Given as goal

abbrev pub invariant-cells : goal.invariant-cells
invariant-cells l = LiesOver l.more l.rest l.initial.cells.items l.cells.items

abbrev pub decreases-cells : goal.decreases-cells
decreases-cells l = length (cells_in_ref l.rest)
