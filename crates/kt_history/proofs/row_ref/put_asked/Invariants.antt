use Rattle.std.proofs.Common.{length}
use Rattle.kt_cells.specs.Borrowed.{cells_in, cells_in_ref}
use Rattle.kt_history.proofs.Asking.{AsksOver}
use Rattle.kt_history.proofs.row_ref.put_asked.Given as goal

abbrev pub invariant-cells : goal.invariant-cells
invariant-cells l = AsksOver l.ids (cells_in_ref l.more) (cells_in_ref l.rest) (cells_in l.initial.cells.items) (cells_in l.cells.items)

abbrev pub decreases-cells : goal.decreases-cells
decreases-cells l = length (cells_in_ref l.rest)
