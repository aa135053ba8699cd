use Rattle.std.proofs.Common.{◌≡◌, drop}
use Rattle.std.specs.Ordering.{nat_cmp}
use Rattle.std.specs.FinMap.Entries.{find}
use Rattle.kt_baseset.specs.Tables.{row_at}
use Rattle.kt_baseset.proofs.asked.asked_of.Given as goal

abbrev pub invariant-columns : goal.invariant-columns
invariant-columns l = find nat_cmp l.asked.0 (row_at (drop l.held-index l.columns) l.i) ≡ find nat_cmp l.asked.0 (row_at l.columns l.i)
