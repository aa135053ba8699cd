use Rattle.kt_seatlock.specs.Passes.{number, seen, part, IsBack}
use Rattle.kt_engine.specs.Calls.{SeesOthers, HasNoDevice, StandsStill}
use Rattle.kt_maint.specs.Calls.{SameUpkeep}
use Rattle.kt_maint.proofs.run.run_job.Given as goal

abbrev pub invariant-tries : goal.invariant-tries
invariant-tries g l = IsBack l.initial.pass l.pass × HasNoDevice (part l.pass) × StandsStill (part l.initial.pass) (part l.pass) × SameUpkeep (part l.initial.pass) (part l.pass) × SeesOthers (number l.initial.pass) (seen l.initial.pass) (seen l.pass)
