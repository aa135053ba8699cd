use Rattle.kt_judge.specs.Works.{work_of}
use Rattle.kt_judge.specs.Openings.{past_of}
use Rattle.kt_judge.proofs.Growing.{next_line_later, grown_more}
use Rattle.kt_judge.proofs.grown.run_table.Goals as goal

pub put_line-requires-clause-later : goal.put_line-requires-clause-later
put_line-requires-clause-later c = next_line_later (work_of c.args.cells c.args.script.now) (past_of c.args.opening.now) c.args.opening.now.c c.args.events.now c.loop-event.event-index _ c.loop-event.entries.items c.requires.run c.loop-event.invariant c.loop-event-test.true

pub loop-event-preserved : goal.loop-event-preserved
loop-event-preserved c = grown_more (work_of c.args.cells c.args.script.now) (past_of c.args.opening.now) c.args.opening.now.c c.args.events.now c.loop-event.event-index _ c.loop-event.entries.items c.put_line.new.entries.items c.requires.run c.loop-event.invariant c.loop-event-test.true (c.in_ok-put_line.ensures c.args.cells)
