-- How the outcome of a crash is made, call by call.
use Rattle.std.specs.Prelude.{◌≡◌, ◌==◌, ◌&&◌, ◌||◌, List, [], ◌∷◌, ℕ, Bool, true, false, length, Option}
use Rattle.kt_disk.specs.Disk.{Torn, Cut, Gone}
use Rattle.kt_disk.specs.Memory.{after}
use Rattle.kt_disk.specs.declared.event.Event.{Event}
use Rattle.kt_disk.specs.declared.event.Change.{Change}
use Rattle.kt_disk.specs.declared.event.Change.TheVariants as change

abbrev pub is_sync : Change → Bool
is_sync (change.Write at bytes) = false
is_sync (change.Cut to) = false
is_sync change.Sync = true
is_sync change.Remove = false
is_sync change.Look = false

-- among these calls the file is synced
abbrev pub is_synced : ℕ → List Event → Bool
is_synced n [] = false
is_synced n (e ∷ calls) = (e.file == n && is_sync e.change) || is_synced n calls

-- of each call, whether a sync of its file follows
abbrev pub followed : List Event → List Bool
followed [] = []
followed (e ∷ calls) = is_synced e.file calls ∷ followed calls

-- what a call makes of its file: all of it where a sync follows, and else what a crash may leave
abbrev pub Leaves : Bool → Change → Option (List ℕ) → Option (List ℕ) → Type 0
Leaves true c old new = new ≡ after c old
Leaves false (change.Write at bytes) old new = Torn at (length bytes) old new
Leaves false (change.Cut to) old new = Cut to old new
Leaves false change.Sync old new = new ≡ old
Leaves false change.Remove old new = Gone old new
Leaves false change.Look old new = new ≡ old

-- the same where the call may be on another file
abbrev pub LeavesIf : Bool → Bool → Change → Option (List ℕ) → Option (List ℕ) → Type 0
LeavesIf true synced c old new = Leaves synced c old new
LeavesIf false synced c old new = new ≡ old
