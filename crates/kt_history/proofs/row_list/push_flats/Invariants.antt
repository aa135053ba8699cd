use Rattle.std.proofs.Common.{List, ◌++◌, take, map}
use Rattle.kt_base.specs.declared.cell.Cell.{Cell}
use Rattle.kt_base.specs.Borrowed.{cell_in}
use Rattle.kt_history.specs.Flat.{AreFlat}
use Rattle.kt_history.proofs.row_list.push_flats.Given as goal

abbrev pub invariant-cells : goal.invariant-cells
invariant-cells l = (row : List Cell) → AreFlat l.initial.texts l.initial.cells.items row → AreFlat l.texts l.cells.items (row ++ map cell_in (take l.cell-index l.more))
