-- The calls of a disk in memory, which nothing but their snapshot tells.
use Rattle.std.specs.Prelude.{List, [], ◌∷◌, ◌++◌, take, drop}
use Rattle.kt_disk.specs.declared.event.Event.{Event}
use Rattle.kt_disk.specs.declared.event.Change.{Change}
use Rattle.kt_disk.specs.declared.event.Change.TheVariants as change
use Rattle.kt_host.specs.declared.ram.Deed.{Deed}
use Rattle.kt_host.specs.declared.ram.Deed.TheVariants as deed
use Rattle.kt_host.specs.declared.ram.Call.{Call}
use Rattle.kt_host.specs.declared.ram.Past.{Past, Begin, Then'}

-- what a call did; a write wrote what its file then has there
abbrev pub change_of : Deed → Change
change_of (deed.Write at len whole) = change.Write at (take len (drop at whole.value))
change_of (deed.Cut to) = change.Cut to
change_of deed.Sync = change.Sync
change_of deed.Remove = change.Remove
change_of deed.Look = change.Look

abbrev pub event_of : Call → Event
event_of call = record { file = call.file; change = change_of call.deed }

-- the calls, the oldest first
abbrev pub calls_of : Past → List Event
calls_of Begin = []
calls_of (Then' call p before) = calls_of before ++ event_of call ∷ []
