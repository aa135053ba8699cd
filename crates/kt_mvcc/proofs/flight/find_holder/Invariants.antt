use Rattle.std.proofs.Common.{◌≡◌, drop}
use Rattle.kt_mvcc.specs.Flying.{holder}
use Rattle.kt_mvcc.proofs.Least.{merged}
use Rattle.kt_mvcc.proofs.flight.find_holder.Given as goal

abbrev pub invariant-loop-flier : goal.invariant-loop-flier
invariant-loop-flier l = merged l.found (holder l.keys (drop l.flier-index l.flying)) ≡ holder l.keys l.flying
