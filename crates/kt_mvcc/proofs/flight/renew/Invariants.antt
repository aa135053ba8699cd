use Rattle.std.proofs.Common.{take}
use Rattle.kt_mvcc.specs.Held.{Tells}
use Rattle.kt_mvcc.proofs.flight.renew.Given as goal

abbrev pub invariant-loop-flier : goal.invariant-loop-flier
invariant-loop-flier l = Tells l.held (take l.flier-index l.flying)
