use Rattle.std.proofs.Common.{length}
use Rattle.kt_cells.specs.Borrowed.{cells_in_ref}
use Rattle.kt_history.proofs.Merging.{SetsSome}
use Rattle.kt_history.proofs.row_ref.put_rising.Given as goal

abbrev pub invariant-cells : goal.invariant-cells
invariant-cells l = SetsSome l.more l.rest l.initial.cells.items l.cells.items l.from l.least

abbrev pub decreases-cells : goal.decreases-cells
decreases-cells l = length (cells_in_ref l.rest)
