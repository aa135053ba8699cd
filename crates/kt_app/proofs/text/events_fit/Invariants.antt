use Rattle.std.proofs.Common.{take}
use Rattle.std.specs.Prelude.{All}
use Rattle.kt_script.specs.Laws.{EventFits}
use Rattle.kt_app.proofs.text.events_fit.Given as goal

abbrev pub invariant-loop-event : goal.invariant-loop-event
invariant-loop-event l = All EventFits (take l.event-index l.events)
