use Rattle.std.proofs.Common.{◌≡◌, drop, map}
use Rattle.std.specs.Ordering.{nat_cmp}
use Rattle.std.specs.FinMap.Entries.{find}
use Rattle.kt_scan.proofs.kinds.kind_in.Given as goal

abbrev pub invariant-loop-column : goal.invariant-loop-column
invariant-loop-column l = find nat_cmp l.id (map (λ c. (c.id, c.kind)) (drop l.column-index l.columns)) ≡ find nat_cmp l.id (map (λ c. (c.id, c.kind)) l.columns)
