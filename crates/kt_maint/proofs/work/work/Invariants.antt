use Rattle.kt_seatlock.specs.Passes.{number, seen, part, IsBack}
use Rattle.kt_engine.specs.Calls.{SeesOthers, HasNoDevice, StandsStill}
use Rattle.kt_maint.specs.Calls.{LeavesNoJob}
use Rattle.kt_maint.proofs.work.work.Given as goal

abbrev pub invariant-steps : goal.invariant-steps
invariant-steps g l = IsBack l.initial.pass l.pass × HasNoDevice (part l.pass) × StandsStill (part l.initial.pass) (part l.pass) × SeesOthers (number l.initial.pass) (seen l.initial.pass) (seen l.pass) × LeavesNoJob (part l.initial.pass) (part l.pass) (seen l.pass)
