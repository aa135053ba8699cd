-- Calls of a disk in memory, where the bytes of all writes stand in one buffer.
use Rattle.std.specs.Prelude.{ℕ, ◌+◌, ◌≤◌, List, take, drop}
use Rattle.kt_disk.specs.declared.event.Event.{Event}
use Rattle.kt_disk.specs.declared.event.Change.{Change}
use Rattle.kt_disk.specs.declared.event.Change.TheVariants as change
use Rattle.kt_disk.specs.declared.calls.Plain.{Plain}
use Rattle.kt_disk.specs.declared.calls.Plain.TheVariants as plain
use Rattle.kt_disk.specs.declared.calls.Deed.{Deed}
use Rattle.kt_disk.specs.declared.calls.Deed.TheVariants as deed
use Rattle.kt_disk.specs.declared.calls.Call.{Call}

abbrev pub change_of : Plain → Change
change_of (plain.Cut to) = change.Cut to
change_of plain.Sync = change.Sync
change_of plain.Remove = change.Remove
change_of plain.Look = change.Look

-- what a call did, with what it wrote
abbrev pub change_in : List ℕ → Deed → Change
change_in bytes (deed.Write at from len) = change.Write at (take len (drop from bytes))
change_in bytes (deed.Plain plain) = change_of plain

abbrev pub event_in : List ℕ → Call → Event
event_in bytes call = record { file = call.file; change = change_in bytes call.deed }

-- what was written lies within so many bytes
abbrev pub IsWithin : ℕ → Deed → Type 0
IsWithin total (deed.Write at from len) = from + len ≤ total
IsWithin total (deed.Plain plain) = Unit {0}

abbrev pub LiesIn : ℕ → Call → Type 0
LiesIn total call = IsWithin total call.deed
