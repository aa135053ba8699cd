use Rattle.std.proofs.Common.{◌≡◌, ◌++◌, map, take}
use Rattle.kt_base.specs.Borrowed.{cell_in}
use Rattle.kt_scan.proofs.scanning.push_borrowed.Given as goal

abbrev pub invariant-loop-cell : goal.invariant-loop-cell
invariant-loop-cell l = map cell_in l.refs.items ≡ map cell_in l.initial.refs.items ++ take l.cell-index l.cells
