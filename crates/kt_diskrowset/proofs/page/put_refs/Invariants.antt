use Rattle.std.proofs.Common.{◌≡◌, take, map}
use Rattle.kt_base.specs.Borrowed.{cell_in}
use Rattle.kt_diskrowset.proofs.page.put_refs.Given as goal

abbrev pub invariant-cells : goal.invariant-cells
invariant-cells l = map cell_in l.line.items ≡ take l.cell-index l.cells
