use Rattle.kt_seatlock.specs.Passes.{number, seen, part}
use Rattle.kt_maint.proofs.Calling.{still_itself, sees_itself}
use Rattle.kt_maint.proofs.run.run_compact.Goals as goal

pub returns-in_default-clause-still : goal.returns-in_default-clause-still
returns-in_default-clause-still g c = (still_itself (part c.args.pass.now) c.requires.home).0

pub returns-in_default-clause-quiet : goal.returns-in_default-clause-quiet
returns-in_default-clause-quiet g c = sees_itself (number c.args.pass.now) (seen c.args.pass.now)

pub returns-in_default-clause-call : goal.returns-in_default-clause-call
returns-in_default-clause-call g c = (c.requires.home, λ none. none)
