use Rattle.kt_seatlock.specs.Passes.{IsSame}
use Rattle.kt_seatlock.proofs.lock.SeatLock.rest.Given as goal

abbrev pub invariant-loop : goal.invariant-loop
invariant-loop g l = IsSame l.initial.pass l.pass
