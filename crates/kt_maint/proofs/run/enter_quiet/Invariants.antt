use Rattle.std.proofs.Common.{◌≡◌}
use Rattle.kt_seatlock.specs.Passes.{number, seen, part, IsBack}
use Rattle.kt_engine.specs.Calls.{SeesOthers}
use Rattle.kt_maint.proofs.run.enter_quiet.Given as goal

abbrev pub invariant-visits : goal.invariant-visits
invariant-visits g l = IsBack l.initial.pass l.pass × (part l.pass ≡ part l.initial.pass) × SeesOthers (number l.initial.pass) (seen l.initial.pass) (seen l.pass)
