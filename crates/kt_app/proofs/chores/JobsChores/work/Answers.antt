use Rattle.kt_seatlock.specs.Passes.{part, seen}
use Rattle.kt_app.proofs.Stops.{none_left, to_jobs}
use Rattle.kt_app.proofs.chores.JobsChores.work.Goals as goal

pub returns-clause-none : goal.returns-clause-none
returns-clause-none g c = λ h. none_left (part c.work.new.pass) (seen c.work.new.pass) (c.work.ensures.none (to_jobs (part c.args.pass.now) h))
