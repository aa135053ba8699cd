use Rattle.std.proofs.Common.{◌≡◌, drop}
use Rattle.std.specs.Ordering.{nat_cmp}
use Rattle.std.specs.FinMap.Entries.{find}
use Rattle.kt_cells.specs.Borrowed.{cells_in}
use Rattle.kt_scan.proofs.row.other_cell.Given as goal

abbrev pub invariant-loop-cell : goal.invariant-loop-cell
invariant-loop-cell l = find nat_cmp l.id (cells_in (drop l.cell-index l.cells)) ≡ find nat_cmp l.id (cells_in l.cells)
