use Rattle.std.proofs.Common.{drop}
use Rattle.kt_cells.specs.Borrowed.{cells_in}
use Rattle.kt_history.proofs.Asking.{AsksOver}
use Rattle.kt_history.proofs.row_ref.put_asked_last.Given as goal

abbrev pub invariant-cells : goal.invariant-cells
invariant-cells l = AsksOver l.ids l.more (drop l.own-index l.more) (cells_in l.initial.cells.items) (cells_in l.cells.items)
