-- How a log comes home that went out with some records.
use Rattle.std.specs.Prelude.{◌≡◌, ◌≤◌, ◌+◌, ◌++◌, ℕ, Bool, IsTrue, List, length, Option}
use Rattle.kt_base.specs.Causes.{Rose}
use Rattle.kt_disk.specs.Disk.{Files}
use Rattle.kt_records.specs.declared.entry.Entry.{Entry}
use Rattle.kt_journal.specs.Log.{records_of, Holds, IsOldOrBoth, CanOpen}
use Rattle.kt_journal.specs.Open.{JournalView}
use Rattle.kt_engine.specs.Engines.{KeepsOthers}
use Rattle.kt_engine.specs.Moments.{IsAppendedTo}
use Rattle.kt_engine.specs.Visits.{PartView}
use Rattle.kt_serve.specs.Sessions.{HasLog}

-- the records are durable behind those that it had, and at each moment a crash left those alone, or both
pub record IsAppended {L : Type 0} (tells : Bool) (seen : L → Files) (now : L → ℕ) (leaves : L → ℕ → Files → Type 0) (faults : L → ℕ) (old : JournalView L) (records : List Entry) (new : JournalView L) : Type 0 where
  pub usable : IsTrue new.usable
  pub count : new.count ≡ old.count + length records
  pub reads : IsTrue tells → records_of (seen new.disk) ≡ records_of (seen old.disk) ++ records
  pub durable : IsTrue tells → Holds now leaves new.disk (records_of (seen new.disk))
  pub opens : IsTrue tells → CanOpen now leaves new.disk
  pub others : IsTrue tells → KeepsOthers now leaves old.disk new.disk
  pub later : faults old.disk ≤ faults new.disk
  pub moments : IsTrue tells → IsAppendedTo seen now leaves old records new.disk

-- its device failed, and each image of it, at each moment, has what was durable, or that and the records
pub record IsBroken {L : Type 0} (tells : Bool) (seen : L → Files) (now : L → ℕ) (leaves : L → ℕ → Files → Type 0) (faults : L → ℕ) (old : JournalView L) (records : List Entry) (new : JournalView L) : Type 0 where
  pub rose : Rose (faults old.disk) (faults new.disk)
  pub later : faults old.disk ≤ faults new.disk
  pub images : IsTrue tells → (image : Files) → leaves new.disk (now new.disk) image → IsOldOrBoth (records_of (seen old.disk)) records (image 1)
  pub opens : IsTrue tells → CanOpen now leaves new.disk
  pub others : IsTrue tells → KeepsOthers now leaves old.disk new.disk
  pub moments : IsTrue tells → IsAppendedTo seen now leaves old records new.disk

-- The pass has the log, which went out with these records, and this has become of its journal.
abbrev pub Returns : {L D C : Type 0} → (JournalView L → List Entry → JournalView L → Type 0) → Option (PartView L D C) → JournalView L → Type 0
Returns {L} {D} {C} Became told new = (old : JournalView L) × (records : List Entry) × HasLog told old records × Became old records new
