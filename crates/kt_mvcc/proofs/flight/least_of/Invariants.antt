use Rattle.std.proofs.Common.{◌≡◌, drop}
use Rattle.kt_mvcc.specs.Flying.{least_of}
use Rattle.kt_mvcc.proofs.Least.{merged}
use Rattle.kt_mvcc.proofs.flight.least_of.Given as goal

abbrev pub invariant-loop-flier : goal.invariant-loop-flier
invariant-loop-flier l = merged l.found (least_of (drop l.flier-index l.flying)) ≡ least_of l.flying
