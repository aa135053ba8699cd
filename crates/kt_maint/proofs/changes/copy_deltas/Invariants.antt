use Rattle.std.proofs.Common.{◌≡◌, take}
use Rattle.kt_maint.proofs.changes.copy_deltas.Given as goal

abbrev pub invariant-deltas : goal.invariant-deltas
invariant-deltas l = l.copy.items ≡ take l.delta-index l.list
