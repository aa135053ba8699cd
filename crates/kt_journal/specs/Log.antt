-- The records of a log, or its first fault.
use Rattle.std.specs.Prelude.{◌≡◌, ◌⊎◌, ◌+◌, ◌≤◌, ℕ, List, [], ◌∷◌, ◌++◌, length, Option, Some, None, IsSome, Result, Ok, Err, if◌then◌else◌}
use Rattle.kt_disk.specs.Disk.{Files, held, bytes_of}
use Rattle.kt_records.specs.declared.entry.Entry.{Entry}
use Rattle.kt_records.specs.Reading.{record_of}
use Rattle.kt_journal.specs.Frames.{frames_in}
use Rattle.kt_journal.specs.Order.{follows, InOrder}

-- the record that was read, where it may follow those before it
abbrev pub following : List Entry → Result Entry ℕ → Option Entry
following before (Ok r) = if follows before r then Some r else None
following before (Err place) = None

abbrev pub with_record : Entry → Result (List Entry) ℕ → Result (List Entry) ℕ
with_record r (Ok records) = Ok (r ∷ records)
with_record r (Err offset) = Err offset

abbrev pub then_records : (Entry → Result (List Entry) ℕ) → ℕ → Option Entry → Result (List Entry) ℕ
then_records more offset None = Err offset
then_records more offset (Some r) = with_record r (more r)

-- the records that these payloads spell behind others, or the gate of the first frame that has none or one out of order
unfoldable pub records_in : List Entry → ℕ → List (List ℕ) → Result (List Entry) ℕ
records_in before offset [] = Ok []
records_in before offset (p ∷ payloads) = then_records (λ r. records_in (r ∷ before) (offset + 5 + length p) payloads) offset (following before (record_of p))

-- a frame that reaches past the end is a fault, and stands behind all others
abbrev pub then_broken : Option ℕ → Result (List Entry) ℕ → Result (List Entry) ℕ
then_broken None read = read
then_broken (Some gate) (Ok records) = Err gate
then_broken (Some gate) (Err offset) = Err offset

-- the records of the frames before the first closed gate, or the gate of the first frame at fault
abbrev pub log_in : List ℕ → Result (List Entry) ℕ
log_in bytes = then_broken (frames_in bytes).broken (records_in [] 0 (frames_in bytes).payloads)

-- the log is file 1
abbrev pub log_of : Files → Result (List Entry) ℕ
log_of files = log_in (held files 1)

abbrev pub found_in : Result (List Entry) ℕ → List Entry
found_in (Ok records) = records
found_in (Err offset) = []

-- the records of a log without a fault
abbrev pub records_of : Files → List Entry
records_of files = found_in (log_of files)

-- a log with these records has no fault
abbrev pub IsLog : List Entry → Type 0
IsLog records = InOrder [] records

-- A crash at the disk's last moment leaves these records.
abbrev pub Holds : {D : Type 0} → (D → ℕ) → (D → ℕ → Files → Type 0) → D → List Entry → Type 0
Holds now leaves disk records = (c : Files) → leaves disk (now disk) c → log_of c ≡ Ok records

-- the file is there, and its records are the old ones, or the old and the new
abbrev pub IsOldOrBoth : List Entry → List Entry → Option (List ℕ) → Type 0
IsOldOrBoth old new file = IsSome file × ((log_in (bytes_of file) ≡ Ok old) ⊎ (log_in (bytes_of file) ≡ Ok (old ++ new)))

-- the records of this image are those that a crash at the last moment of that disk might have left
abbrev pub IsOf : {D : Type 0} → (D → ℕ) → (D → ℕ → Files → Type 0) → D → Files → Type 0
IsOf now leaves disk c = (d : Files) × leaves disk (now disk) d × (log_of c ≡ log_of d)

-- The log in this file may be opened: the file is there in each image, or has one byte at most in each.
pub record CanOpenFile {D : Type 0} (now : D → ℕ) (leaves : D → ℕ → Files → Type 0) (file : ℕ) (disk : D) : Type 0 where
  pub either : ((c : Files) → leaves disk (now disk) c → IsSome (c file)) ⊎ ((c : Files) → leaves disk (now disk) c → length (held c file) ≤ 1)

abbrev pub CanOpen : {D : Type 0} → (D → ℕ) → (D → ℕ → Files → Type 0) → D → Type 0
CanOpen now leaves disk = CanOpenFile now leaves 1 disk
