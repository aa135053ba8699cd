use Rattle.kt_history.specs.Machine.{Allowed}
use Rattle.kt_judge.specs.Works.{work_of}
use Rattle.kt_judge.specs.Machine.{state_of}
use Rattle.kt_judge.proofs.Steps.{decided_true, decided_false}
use Rattle.kt_judge.proofs.Taken.{refuses, follows_more}
use Rattle.kt_judge.proofs.follow.follow.Goals as goal

pub returns-then-not-is_allowed : goal.returns-then-not-is_allowed
returns-then-not-is_allowed c = λ past last before f.
    refuses (work_of c.args.cells c.args.script.now) past last before c.args.m.now c.args.event.now f (λ p. decided_false (Allowed (work_of c.args.cells c.args.script.now) (state_of (work_of c.args.cells c.args.script.now) p c.args.m.now) c.args.event.now) c.is_allowed.result c.if-not-is_allowed.true (c.is_allowed.ensures p))

pub returns : goal.returns
returns c = λ past last before f.
    follows_more (work_of c.args.cells c.args.script.now) past last before c.args.m.now c.take.new.self c.args.event.now f (λ p. decided_true (Allowed (work_of c.args.cells c.args.script.now) (state_of (work_of c.args.cells c.args.script.now) p c.args.m.now) c.args.event.now) c.is_allowed.result c.if-not-is_allowed.false (c.is_allowed.ensures p)) (c.in_ok-take.ensures (work_of c.args.cells c.args.script.now))
