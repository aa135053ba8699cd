use Rattle.std.proofs.Common.{◌≡◌, drop, map}
use Rattle.std.specs.Ordering.{nat_cmp}
use Rattle.std.specs.FinMap.Entries.{find}
use Rattle.kt_base.specs.Borrowed.{cell_in}
use Rattle.kt_scan.specs.Encoded.{ids_with}
use Rattle.kt_scan.proofs.row.key_cell.Given as goal

-- what is found among the cells that are left
abbrev pub invariant-loop-cell : goal.invariant-loop-cell
invariant-loop-cell l = find nat_cmp l.id (ids_with l.rest (map cell_in (drop l.cell-index l.key))) ≡ find nat_cmp l.id (ids_with l.columns (map cell_in l.key))
