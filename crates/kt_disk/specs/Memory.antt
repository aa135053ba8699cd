-- What a disk in memory holds, and what a crash may leave of it, by the calls that it keeps.
use Rattle.std.specs.Prelude.{◌≡◌, ◌==◌, ℕ, Bool, true, false, min, List, [], ◌∷◌, length, take, map, reverse, Option, Some, None, if◌then◌else◌}
use Rattle.kt_disk.specs.Disk.{Files, bytes_of, put, shortened, Torn, Cut, Gone}
use Rattle.kt_disk.specs.declared.lists.FileBytes.{FileBytes}
use Rattle.kt_disk.specs.declared.event.Event.{Event}
use Rattle.kt_disk.specs.declared.event.Change.{Change}
use Rattle.kt_disk.specs.declared.event.Change.TheVariants as change

-- what a contract sees of a disk in memory: what it held at first, each call since, the oldest first, and the count
pub record MemView : Type 0 where
  pub start : List FileBytes
  pub calls : List Event
  pub faults : ℕ

-- a file among those that are listed: of two with one number the first
abbrev pub listed : List FileBytes → Files
listed [] n = None
listed (f ∷ files) n = if f.file == n then Some f.bytes else listed files n

-- a file after a call on it
abbrev pub after : Change → Option (List ℕ) → Option (List ℕ)
after (change.Write at bytes) old = Some (put (bytes_of old) at bytes)
after (change.Cut to) old = shortened to old
after change.Sync old = old
after change.Remove old = None
after change.Look old = old

-- what a crash may make of it, until a sync
abbrev pub Moves : Change → Option (List ℕ) → Option (List ℕ) → Option (List ℕ) → Type 0
Moves (change.Write at bytes) seen old new = Torn at (length bytes) old new
Moves (change.Cut to) seen old new = Cut to old new
Moves change.Sync seen old new = (new ≡ old) × (new ≡ seen)
Moves change.Remove seen old new = Gone old new
Moves change.Look seen old new = new ≡ old

-- the same where the call may be on another file
abbrev pub MovesIf : Bool → Change → Option (List ℕ) → Option (List ℕ) → Option (List ℕ) → Type 0
MovesIf true change seen old new = Moves change seen old new
MovesIf false change seen old new = new ≡ old

-- a file after calls, of which the newest comes first
abbrev pub contents : ℕ → Option (List ℕ) → List Event → Option (List ℕ)
contents n start [] = start
contents n start (e ∷ earlier) = if e.file == n then after e.change (contents n start earlier) else contents n start earlier

-- a crash after these calls may leave the file so
abbrev pub IsLeft : ℕ → Option (List ℕ) → List Event → Option (List ℕ) → Type 0
IsLeft n start [] c = c ≡ start
IsLeft n start (e ∷ earlier) c = (d : Option (List ℕ)) × IsLeft n start earlier d × MovesIf (e.file == n) e.change (contents n start earlier) d c

-- a number as a byte: one above 255, which no disk that is made holds, counts as 255
abbrev pub as_byte : ℕ → ℕ
as_byte n = min n 255

abbrev pub as_bytes : Option (List ℕ) → Option (List ℕ)
as_bytes None = None
as_bytes (Some numbers) = Some (map as_byte numbers)

-- the numbers that a file holds by the record
abbrev pub stored : MemView → Files
stored disk n = contents n (listed disk.start n) (reverse disk.calls)

abbrev pub mem_seen : MemView → Files
mem_seen disk n = as_bytes (stored disk n)

abbrev pub mem_now : MemView → ℕ
mem_now disk = length disk.calls

-- a crash after these calls may leave the bytes of the file so
abbrev pub IsImage : ℕ → Option (List ℕ) → List Event → Option (List ℕ) → Type 0
IsImage n start calls c = (d : Option (List ℕ)) × IsLeft n start calls d × (c ≡ as_bytes d)

abbrev pub mem_leaves : MemView → ℕ → Files → Type 0
mem_leaves disk m c = (n : ℕ) → IsImage n (listed disk.start n) (reverse (take m disk.calls)) (c n)
