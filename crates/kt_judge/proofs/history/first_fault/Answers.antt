use Rattle.kt_judge.specs.Works.{work_of}
use Rattle.kt_judge.proofs.history.first_fault.Goals as goal

pub returns : goal.returns
returns c = λ past mark. c.fault_of.ensures (work_of c.args.cells c.args.script.now) past c.args.c c.args.events.now (c.in_ok-walk.ensures past mark)
