use Rattle.std.proofs.Common.{◌≡◌, ◌++◌, map, take}
use Rattle.kt_base.specs.Borrowed.{cell_in}
use Rattle.kt_cells.specs.Borrowed.{cells_in}
use Rattle.kt_scan.proofs.tested.push_others.Given as goal

abbrev pub invariant-loop-cell : goal.invariant-loop-cell
invariant-loop-cell l = map cell_in l.cells.items ≡ map cell_in l.initial.cells.items ++ map (λ c. c.1) (cells_in (take l.cell-index l.others))
