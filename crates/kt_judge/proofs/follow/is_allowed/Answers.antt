use Rattle.kt_judge.specs.Works.{work_of}
use Rattle.kt_judge.proofs.Allowed.{end_decided}
use Rattle.kt_judge.proofs.follow.is_allowed.Goals as goal

pub returns-in-End : goal.returns-in-End
returns-in-End c = rw c.in-End.is (λ past. end_decided (work_of c.args.cells c.args.script.now) past c.args.m.now c.in-End.s c.in-End.i c.in-End.ts c.is_flying.result c.if-m.false c.is_flying.ensures)
