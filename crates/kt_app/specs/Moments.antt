-- What a crash left of each device at each moment of a call, wherever the other one was.
use Rattle.std.specs.Prelude.{◌≡◌, ◌⊎◌, ℕ, Bool, false, List, Ok}
use Rattle.kt_base.specs.Causes.{Rose}
use Rattle.kt_disk.specs.Disk.{Files, LeavesOnly}
use Rattle.kt_journal.specs.Frames.{IsFrom}
use Rattle.kt_journal.specs.Log.{log_of, records_of}
use Rattle.kt_loglaws.specs.Appended.{WasAppended}
use Rattle.kt_schema.specs.declared.column.Column.{Column}
use Rattle.kt_storeside.specs.Published.{WasPublished}
use Rattle.kt_reopen.specs.Holding.{IsOfStore}
use Rattle.kt_reopen.specs.Opened.{first_meta}

-- ---- the log

-- Since it was opened nothing was done to the log but appends, batch behind batch. All of them are durable then, unless the device has failed since it was handed in.
pub record LogGrew {L : Type 0} (seen : L → Files) (now : L → ℕ) (leaves : L → ℕ → Files → Type 0) (faults : L → ℕ) (old opened new : L) : Type 0 where
  pub whole : Bool
  pub failed : whole ≡ false → Rose (faults old) (faults new)
  pub appended : WasAppended seen now leaves whole opened new

-- It was opened, where at each moment a crash left the frames of the log, and all other files, of one image from before; what a read gave of it then are its records, behind which it grew.
pub record LogWentOn {L : Type 0} (seen : L → Files) (now : L → ℕ) (leaves : L → ℕ → Files → Type 0) (faults : L → ℕ) (old new : L) : Type 0 where
  pub opened : L
  pub opening : LeavesOnly now leaves (IsFrom now leaves 1 old) old opened
  pub found : log_of (seen old) ≡ Ok (records_of (seen opened))
  pub grew : LogGrew seen now leaves faults old opened new

-- At each moment a crash left the frames of the log, and all other files, of one image from before, or the log went on so.
abbrev pub LogThroughout : {L : Type 0} → (L → Files) → (L → ℕ) → (L → ℕ → Files → Type 0) → (L → ℕ) → L → L → Type 0
LogThroughout seen now leaves faults old new = LeavesOnly now leaves (IsFrom now leaves 1 old) old new ⊎ LogWentOn seen now leaves faults old new

-- ---- the store

-- It was opened, where at each moment a crash left the superblock of one image from before, or the first one of the table where that has none, and all files
-- that it names; and from then on superblock behind superblock was published.
pub record StoreWentOn {D : Type 0} (seen : D → Files) (now : D → ℕ) (leaves : D → ℕ → Files → Type 0) (columns : List Column) (old new : D) : Type 0 where
  pub opened : D
  pub opening : LeavesOnly now leaves (IsOfStore now leaves (first_meta columns) old) old opened
  pub published : WasPublished seen now leaves opened new

-- At each moment a crash left the superblock of one image from before, or the first one, and all files that it names, or the store went on so.
abbrev pub StoreThroughout : {D : Type 0} → (D → Files) → (D → ℕ) → (D → ℕ → Files → Type 0) → List Column → D → D → Type 0
StoreThroughout seen now leaves columns old new = LeavesOnly now leaves (IsOfStore now leaves (first_meta columns) old) old new ⊎ StoreWentOn seen now leaves columns old new
