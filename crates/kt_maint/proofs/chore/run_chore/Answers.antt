use Rattle.kt_seatlock.specs.Passes.{part}
use Rattle.kt_maint.proofs.Calling.{still_then}
use Rattle.kt_maint.proofs.chore.run_chore.Goals as goal

pub returns-clause-still : goal.returns-clause-still
returns-clause-still g c = still_then (part c.args.pass.now) (part c.begin_round.new.pass) (part c.run_all.new.pass) c.begin_round.ensures.still c.run_all.ensures.still

pub returns-clause-none : goal.returns-clause-none
returns-clause-none g c = λ goes none. c.run_all.ensures.none goes (c.begin_round.ensures.none none)
