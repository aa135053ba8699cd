use Rattle.kt_serve.specs.Points.{CameTo}
use Rattle.kt_engine.specs.Visits.{root_of}
use Rattle.kt_serve.proofs.Runs.{halts_end}
use Rattle.kt_serve.proofs.run.run_sessions.Goals as goal

pub returns-in-Ok-clause-halted : goal.returns-in-Ok-clause-halted
returns-in-Ok-clause-halted g c = halts_end (CameTo g.G.Gate.came c.args.gate.now) (root_of c.args.engine) c.args.plan.now c.in-Ok.closing.engine c.in-Ok.ends.items c.in-Ok.closing.end c.in-Ok.ensures.ended c.in-Ok.ensures.ends
