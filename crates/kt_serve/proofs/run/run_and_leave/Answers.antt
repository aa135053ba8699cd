use Rattle.kt_seatlock.specs.Passes.{number, part, seen}
use Rattle.kt_serve.specs.Points.{CameTo}
use Rattle.kt_serve.proofs.Rests.{left_none, upkeep_rests}
use Rattle.kt_serve.proofs.Runs.{left_run}
use Rattle.kt_serve.proofs.run.run_and_leave.Goals as goal

pub returns-clause-run : goal.returns-clause-run
returns-clause-run g c = left_run (CameTo g.G.Gate.came c.args.gate.now) (part c.args.place.now.pass) (part c.run_one.new.place.pass) (part c.leave_run.new.pass) (number c.args.place.now.pass) (number c.run_one.new.place.pass) c.args.commands.now (seen c.run_one.new.place.pass) (seen c.leave_run.new.pass) c.run_one.new.place.end c.run_one.ensures.pass.0.1 c.run_one.ensures.run c.leave_run.ensures.still c.leave_run.ensures.log c.leave_run.ensures.stop c.leave_run.ensures.upkeep

pub returns-clause-home : goal.returns-clause-home
returns-clause-home g c = c.leave_run.ensures.log c.run_one.ensures.run.home

pub returns-clause-rests : goal.returns-clause-rests
returns-clause-rests g c = upkeep_rests (part c.run_one.new.place.pass) (part c.leave_run.new.pass) c.leave_run.ensures.upkeep c.run_one.ensures.rests

pub returns-clause-none : goal.returns-clause-none
returns-clause-none g c = λ h. left_none (part c.run_one.new.place.pass) (part c.leave_run.new.pass) (seen c.run_one.new.place.pass) (seen c.leave_run.new.pass) c.leave_run.ensures.upkeep c.leave_run.ensures.stop (c.run_one.ensures.none h)
