use Rattle.std.proofs.Common.{List, refl, subst}
use Rattle.kt_history.specs.declared.event.Event.{Event}
use Rattle.kt_history.specs.Replies.{past_after}
use Rattle.kt_judge.specs.Works.{work_of}
use Rattle.kt_judge.specs.Openings.{past_of}
use Rattle.kt_judge.specs.Walks.{IsWalk}
use Rattle.kt_judge.specs.Wrong.{IsWrong}
use Rattle.kt_judge.proofs.Steps.{decided_true, decided_false}
use Rattle.kt_judge.proofs.Answering.{follows_of, shows_of, end_of_run}
use Rattle.kt_judge.proofs.judging.judge.Goals as goal

pub returns-in-Fault : goal.returns-in-Fault
returns-in-Fault c =
    let walk = subst (λ (es : List Event). IsWalk (work_of c.args.cells c.args.script.now) (past_of c.args.opening.now) c.args.opening.now.c es c.in_ok-m.field-0) c.as_slice-events.ensures (c.in_ok-m.ensures (past_of c.args.opening.now) refl) in
    subst (IsWalk (work_of c.args.cells c.args.script.now) (past_of c.args.opening.now) c.args.opening.now.c c.args.output.now.events) c.in-Fault.is walk

pub run_table-requires-clause-run : goal.run_table-requires-clause-run
run_table-requires-clause-run c =
    let follows = subst (IsWalk (work_of c.args.cells c.args.script.now) (past_of c.args.opening.now) c.args.opening.now.c c.as_slice-events.result.now) c.in-Run.is (c.in_ok-m.ensures (past_of c.args.opening.now) refl) in
    follows.run

pub returns-in-Some : goal.returns-in-Some
returns-in-Some c =
    let follows = follows_of (work_of c.args.cells c.args.script.now) (past_of c.args.opening.now) c.args.opening.now.c c.as_slice-events.result.now c.args.output.now.events c.in_ok-m.field-0 c.in-Run.m c.as_slice-events.ensures c.in-Run.is (c.in_ok-m.ensures (past_of c.args.opening.now) refl) in
    let shows = shows_of (work_of c.args.cells c.args.script.now) (past_of c.args.opening.now) c.args.opening.now.c c.as_slice-events.result.now c.args.output.now.events c.in_ok-run_table.field-0.items c.of-table.result.entries.items c.as_slice-events.ensures c.of-table.ensures c.requires.past.is.rows c.in_ok-run_table.ensures in
    (follows.run, subst (IsWrong (work_of c.args.cells c.args.script.now) (past_of c.args.opening.now) c.args.opening.now.c c.args.output.now) c.in-Some.is (c.in_ok-session.ensures c.args.cells (past_of c.args.opening.now) c.args.opening.now.c follows shows))

pub returns-then-end_stands : goal.returns-then-end_stands
returns-then-end_stands c =
    let follows = follows_of (work_of c.args.cells c.args.script.now) (past_of c.args.opening.now) c.args.opening.now.c c.as_slice-events.result.now c.args.output.now.events c.in_ok-m.field-0 c.in-Run.m c.as_slice-events.ensures c.in-Run.is (c.in_ok-m.ensures (past_of c.args.opening.now) refl) in
    let shows = shows_of (work_of c.args.cells c.args.script.now) (past_of c.args.opening.now) c.args.opening.now.c c.as_slice-events.result.now c.args.output.now.events c.in_ok-run_table.field-0.items c.of-table.result.entries.items c.as_slice-events.ensures c.of-table.ensures c.requires.past.is.rows c.in_ok-run_table.ensures in
    (follows.run, subst (IsWrong (work_of c.args.cells c.args.script.now) (past_of c.args.opening.now) c.args.opening.now.c c.args.output.now) c.in-None.is (c.in_ok-session.ensures c.args.cells (past_of c.args.opening.now) c.args.opening.now.c follows shows), decided_true _ c.end_stands.result c.if-end_stands.true (end_of_run (work_of c.args.cells c.args.script.now) (past_of c.args.opening.now) c.args.opening.now.c c.args.output.now.events c.in-Run.m c.args.output.now.last c.end_stands.result follows (c.end_stands.ensures (work_of c.args.cells c.args.script.now) (past_after (work_of c.args.cells c.args.script.now) (past_of c.args.opening.now) c.args.opening.now.c c.args.output.now.events))))

pub returns : goal.returns
returns c =
    let follows = follows_of (work_of c.args.cells c.args.script.now) (past_of c.args.opening.now) c.args.opening.now.c c.as_slice-events.result.now c.args.output.now.events c.in_ok-m.field-0 c.in-Run.m c.as_slice-events.ensures c.in-Run.is (c.in_ok-m.ensures (past_of c.args.opening.now) refl) in
    let shows = shows_of (work_of c.args.cells c.args.script.now) (past_of c.args.opening.now) c.args.opening.now.c c.as_slice-events.result.now c.args.output.now.events c.in_ok-run_table.field-0.items c.of-table.result.entries.items c.as_slice-events.ensures c.of-table.ensures c.requires.past.is.rows c.in_ok-run_table.ensures in
    (follows.run, subst (IsWrong (work_of c.args.cells c.args.script.now) (past_of c.args.opening.now) c.args.opening.now.c c.args.output.now) c.in-None.is (c.in_ok-session.ensures c.args.cells (past_of c.args.opening.now) c.args.opening.now.c follows shows), decided_false _ c.end_stands.result c.if-end_stands.false (end_of_run (work_of c.args.cells c.args.script.now) (past_of c.args.opening.now) c.args.opening.now.c c.args.output.now.events c.in-Run.m c.args.output.now.last c.end_stands.result follows (c.end_stands.ensures (work_of c.args.cells c.args.script.now) (past_after (work_of c.args.cells c.args.script.now) (past_of c.args.opening.now) c.args.opening.now.c c.args.output.now.events))))
