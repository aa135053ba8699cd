use Rattle.std.proofs.Common.{◌≡◌, map, take}
use Rattle.kt_disk.specs.Noted.{event_in}
use Rattle.kt_disk.proofs.calls.events_of.Given as goal

abbrev pub invariant-loop-call : goal.invariant-loop-call
invariant-loop-call l = l.events.items ≡ map (event_in l.bytes) (take l.call-index l.calls)
