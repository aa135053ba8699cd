-- What a contract sees of an open log.
use Rattle.std.specs.Prelude.{◌≡◌, ◌+◌, ◌^◌, ◌<◌, ◌≤◌, ℕ, Bool, IsTrue, List, map, length}
use Rattle.kt_disk.specs.Disk.{Files}
use Rattle.kt_records.specs.declared.entry.Entry.{Entry}
use Rattle.kt_records.specs.Spelling.{spelling}
use Rattle.kt_journal.specs.Frames.{payloads_of, Settled}
use Rattle.kt_journal.specs.Log.{records_of, IsLog}

-- its device, how many records stand on it, and whether it may still be used: no call on the device has failed
pub record JournalView (L : Type 0) : Type 0 where
  pub disk : L
  pub count : ℕ
  pub usable : Bool

-- These records stand on the device, durable, up to this place.
pub record Stands {L : Type 0} (seen : L → Files) (now : L → ℕ) (leaves : L → ℕ → Files → Type 0) (disk : L) (place : ℕ) (records : List Entry) : Type 0 where
  pub settled : Settled seen now leaves 1 disk place
  pub spelled : payloads_of 1 (seen disk) ≡ map spelling records
  pub sound : IsLog records

-- An open log ends at this place of its device.
pub record IsSound {L : Type 0} (tells : Bool) (seen : L → Files) (now : L → ℕ) (leaves : L → ℕ → Files → Type 0) (disk : L) (place count : ℕ) (usable : Bool) : Type 0 where
  pub room : place + 1 < 2 ^ 64
  pub below : count ≤ place
  pub stands : IsTrue tells → IsTrue usable → Stands seen now leaves disk place (records_of (seen disk)) × (count ≡ length (records_of (seen disk)))
