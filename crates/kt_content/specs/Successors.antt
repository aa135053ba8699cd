-- The superblock that a job publishes, beside the one before it.
use Rattle.std.specs.Prelude.{◌≡◌, ◌⊎◌, ℕ, Bool, true, false, List, [], ◌∷◌, Option, Some, None}
use Rattle.std.specs.List.{filter}
use Rattle.kt_history.specs.declared.target.Target.{Target}
use Rattle.kt_history.specs.declared.target.Target.TheVariants.{Mem, Delta}
use Rattle.kt_records.specs.declared.entry.Entry.{Entry}
use Rattle.kt_records.specs.declared.entry.Entry.TheVariants.{Replicate, Commit}
use Rattle.kt_records.specs.declared.entry.CommitRow.{CommitRow}
use Rattle.kt_loglaws.specs.Replay.{commit_of}
use Rattle.kt_rowfiles.specs.Files.{DiskRowset}
use Rattle.kt_content.specs.Places.{Super, Place, memory, disk, needs, at_first, Held}
use Rattle.kt_content.specs.KeyOps.{seen, KeyOp}
use Rattle.kt_content.specs.Publishing.{kept, AllCarried}
use Rattle.kt_history.specs.Rows.{Row}
use Rattle.kt_content.specs.Content.{AboveFiles}

-- keep says which stores a job leaves as they are: all but its inputs and outputs
abbrev pub kept_rowsets : (Place → Bool) → List DiskRowset → List DiskRowset
kept_rowsets keep rowsets = filter (λ d. keep (disk d.rowset)) rowsets

-- the new superblock names the other rowsets with their files and DeltaMemStores as before, and a job that is no flush leaves the MemRowSets
pub record Succeeds (keep : Place → Bool) (old new : Super) : Type 0 where
  pub rowsets : kept_rowsets keep new.rowsets ≡ kept_rowsets keep old.rowsets
  pub mem : keep memory ≡ true → new.last_mem ≡ old.last_mem

-- the store of an opening that a named store would belong to
abbrev pub place_named : Target → Place
place_named (Mem n) = memory
place_named (Delta r n) = disk r

-- every name is of a store that the job leaves
abbrev pub AllLeft : (Place → Bool) → List Target → Type 0
AllLeft keep [] = Unit {0}
AllLeft keep (t ∷ targets) = (keep (place_named t) ≡ true) × AllLeft keep targets

-- every name is of a store that it takes, and the new superblock needs it no more: a MemRowSet or a DeltaMemStore that is durable now,
-- or a rowset that is gone
abbrev pub AllCovered : (Place → Bool) → Super → List Target → Type 0
AllCovered keep new [] = Unit {0}
AllCovered keep new (t ∷ targets) = (keep (place_named t) ≡ false) × (needs new t ≡ None) × AllCovered keep new targets

abbrev pub RowsCarry : (Place → Bool) → Super → List CommitRow → Type 0
RowsCarry keep new [] = Unit {0}
RowsCarry keep new (row ∷ rows) = (AllLeft keep row.targets ⊎ AllCovered keep new row.targets) × RowsCarry keep new rows

abbrev pub IfTold : (Place → Bool) → Super → Option (List CommitRow) → Type 0
IfTold keep new None = ⊥
IfTold keep new (Some rows) = RowsCarry keep new rows

-- each write among these records has a COMMIT in the log that holds all, and its rows are of one kind or the other
abbrev pub CommitsCarry : (Place → Bool) → Super → List Entry → List Entry → Type 0
CommitsCarry keep new all [] = Unit {0}
CommitsCarry keep new all (Replicate ts ops ∷ records) = IfTold keep new (commit_of ts all) × CommitsCarry keep new all records
CommitsCarry keep new all (Commit ts rows ∷ records) = CommitsCarry keep new all records

-- what the files of the other rowsets have of a key is the same
abbrev pub other_rowsets_are_the_same : Type 0
other_rowsets_are_the_same = (keep : Place → Bool) (old new : Super) (q : List ℕ) → Succeeds keep old new
    → kept keep (at_first q new) ≡ kept keep (at_first q old)

-- a store that the job leaves is needed as before
abbrev pub other_stores_are_needed_as_before : Type 0
other_stores_are_needed_as_before = (keep : Place → Bool) (old new : Super) (t : Target) → Succeeds keep old new → keep (place_named t) ≡ true
    → needs new t ≡ needs old t

-- so each operation carries over
abbrev pub each_operation_carries_over : Type 0
each_operation_carries_over = (keep : Place → Bool) (old new : Super) (q : List ℕ) (all records : List Entry) → Succeeds keep old new
    → CommitsCarry keep new all records → AllCarried keep old new (seen q all records)

-- and each change of a DeltaMemStore lies above the REDO files, where it did so before
abbrev pub changes_stay_above_the_files : Type 0
changes_stay_above_the_files = (fill : Row) (keep : Place → Bool) (old new : Super) (q : List ℕ) (held next : Held) (xs : List KeyOp)
    → Succeeds keep old new → AllCarried keep old new xs → AboveFiles fill q old held xs → AboveFiles fill q new next xs
