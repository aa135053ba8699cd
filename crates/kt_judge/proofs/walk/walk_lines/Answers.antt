use Rattle.std.proofs.Common.{List, arith, take, subst, refl}
use Rattle.kt_history.specs.declared.event.Event.{Event}
use Rattle.kt_judge.specs.Works.{work_of}
use Rattle.kt_judge.specs.Machine.{Follows}
use Rattle.kt_judge.proofs.Walked.{faults, steps, followed_true, followed_false, take_whole}
use Rattle.kt_judge.proofs.walk.walk_lines.Goals as goal

pub returns-then-not-branch : goal.returns-then-not-branch
returns-then-not-branch c = λ past mark.
    let f = c.loop-at.invariant past mark in
    faults (work_of c.args.cells c.args.script.now) past c.args.c c.args.events.now c.loop-at.at _ _ c.loop-at-test.true refl f.run
    (followed_false (work_of c.args.cells c.args.script.now) past c.args.c _ c.follow.new.m c.in_ok-follow.field-0 c.if-not-branch.true (c.in_ok-follow.ensures past c.args.c (take c.loop-at.at c.args.events.now) f))

pub loop-at-preserved : goal.loop-at-preserved
loop-at-preserved c = λ past mark.
    steps (work_of c.args.cells c.args.script.now) past c.args.c c.args.events.now c.loop-at.at _ _ c.follow.new.m c.loop-at-test.true refl
    (followed_true (work_of c.args.cells c.args.script.now) past c.args.c _ c.follow.new.m c.in_ok-follow.field-0 c.if-not-branch.false (c.in_ok-follow.ensures past c.args.c (take c.loop-at.at c.args.events.now) (c.loop-at.invariant past mark)))

pub returns : goal.returns
returns c = λ past mark.
    subst (λ (es : List Event). Follows (work_of c.args.cells c.args.script.now) past c.args.c es c.loop-at.m) (take_whole c.args.events.now c.loop-at.at (omega arith)) (c.loop-at.invariant past mark)
