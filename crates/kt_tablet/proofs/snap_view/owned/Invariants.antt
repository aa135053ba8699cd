use Rattle.std.proofs.Common.{◌≡◌, take}
use Rattle.kt_cells.specs.Borrowed.{cells_in}
use Rattle.kt_tablet.proofs.snap_view.owned.Given as goal

abbrev pub invariant-loop-cell : goal.invariant-loop-cell
invariant-loop-cell l = l.cells.items ≡ cells_in (take l.cell-index l.row)
