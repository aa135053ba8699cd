use Rattle.kt_judge.specs.Works.{work_of}
use Rattle.kt_judge.specs.Openings.{past_of}
use Rattle.kt_judge.proofs.Growing.{IsGrown}
use Rattle.kt_judge.proofs.grown.run_table.Given as goal

-- the lines so far are done
abbrev pub invariant-loop-event : goal.invariant-loop-event
invariant-loop-event l = IsGrown (work_of l.cells l.script) (past_of l.opening) l.opening.c l.events l.event-index l.entries.items
