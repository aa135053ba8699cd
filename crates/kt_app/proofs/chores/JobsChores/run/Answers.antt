use Rattle.kt_seatlock.specs.Passes.{part, seen}
use Rattle.kt_app.proofs.Stops.{from_jobs, same_stop, to_jobs}
use Rattle.kt_app.proofs.chores.JobsChores.run.Goals as goal

pub returns-clause-stopped : goal.returns-clause-stopped
returns-clause-stopped g c = λ e. same_stop (seen c.run_chore.new.pass) (c.run_chore.ensures.stopped e)

pub returns-clause-none : goal.returns-clause-none
returns-clause-none g c = λ ne h. from_jobs (part c.run_chore.new.pass) (c.run_chore.ensures.none ne (to_jobs (part c.args.pass.now) h))
