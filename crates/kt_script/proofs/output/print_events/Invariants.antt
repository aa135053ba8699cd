use Rattle.std.proofs.Common.{◌≡◌, ◌++◌, take}
use Rattle.std.specs.List.{flat_map}
use Rattle.kt_script.specs.Texts.{event_line}
use Rattle.kt_script.proofs.output.print_events.Given as goal

abbrev pub invariant-loop-event : goal.invariant-loop-event
invariant-loop-event l = l.out ≡ l.fn.out ++ flat_map event_line (take l.event-index l.events)
