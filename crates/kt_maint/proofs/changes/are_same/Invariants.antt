use Rattle.std.proofs.Common.{◌≡◌, take}
use Rattle.kt_maint.proofs.changes.are_same.Given as goal

abbrev pub invariant-deltas : goal.invariant-deltas
invariant-deltas l = take l.at l.one ≡ take l.at l.other
