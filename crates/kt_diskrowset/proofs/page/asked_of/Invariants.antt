use Rattle.std.proofs.Common.{◌≡◌, drop}
use Rattle.std.specs.Ordering.{nat_cmp}
use Rattle.std.specs.FinMap.Entries.{find}
use Rattle.kt_diskrowset.proofs.page.asked_of.Given as goal

abbrev pub invariant-cells : goal.invariant-cells
invariant-cells l = find nat_cmp l.column.0 (drop l.cell-index l.row) ≡ find nat_cmp l.column.0 l.row
