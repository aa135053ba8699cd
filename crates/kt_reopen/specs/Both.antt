-- What the images of a log and of a store hold together, or why they are refused: the order of the refusals is B1, B3, B4, B2, B5, B6,
-- and then B3 of an operation that does not fit.
use Rattle.std.specs.Prelude.{◌≡◌, ◌≤◌, ◌<◌, ◌-◌, ◌^◌, ℕ, ◌==◌, max, List, [], ◌∷◌, map, length, nat_lt, Option, Some, None, Result, Ok, Err, if◌then◌else◌}
use Rattle.kt_disk.specs.Disk.{Files}
use Rattle.kt_history.specs.Rows.{Row}
use Rattle.kt_records.specs.declared.entry.Entry.{Entry}
use Rattle.kt_journal.specs.Log.{log_of}
use Rattle.kt_loglaws.specs.Replay.{last_of, gate_of}
use Rattle.kt_schema.specs.declared.column.Column.{Column}
use Rattle.kt_schema.specs.Columns.{fill_of}
use Rattle.kt_super.specs.declared.meta.Meta.{Meta}
use Rattle.kt_super.specs.declared.refusal.Place.{Place}
use Rattle.kt_super.specs.Slots.{super_of}
use Rattle.kt_rowfiles.specs.Files.{DiskRowset}
use Rattle.kt_rowfiles.specs.Fitting.{readable}
use Rattle.kt_diskrowset.specs.Rows.{store_with}
use Rattle.kt_diskrowset.specs.Rowset.{HeldFiles}
use Rattle.kt_files.specs.Reading.{HoldAll, IsFirstFault}
use Rattle.kt_files.specs.Content.{rowsets_in}
use Rattle.kt_content.specs.Places.{Super, memory, disk, fresh}
use Rattle.kt_content.specs.Opening.{Placed, opened}
use Rattle.kt_reopen.specs.declared.why.Why.{Why}
use Rattle.kt_reopen.specs.declared.why.Why.TheVariants.{B1, B2, B3, B4, B5, B6}
use Rattle.kt_reopen.specs.Tables.{AllAreLike, DifferFirst}

-- ---- before the data files are read

-- what the slots and the log say: no superblock and no record, or a superblock and the records of the log
abbrev pub Read : Type 0
Read = Result (Option Meta × List Entry) Why

-- A superblock and so many records: there are as many as it needs, and without one there is none
abbrev pub count_why : Option Meta → ℕ → Option Why
count_why None found = if nat_lt 0 found then Some (B1 1 0) else None
count_why (Some m) found = if nat_lt found m.need then Some (B4 m.need found) else None

abbrev pub unless : Option Meta → List Entry → Option Why → Read
unless meta records None = Ok (meta, records)
unless meta records (Some why) = Err why

-- A fault of the log. Without a superblock, one that lies behind the first frame is no matter, since that frame is a record; a first frame that is at
-- fault is none
abbrev pub fault_why : Option Meta → ℕ → Why
fault_why None offset = if offset == 0 then B3 0 else B1 1 0
fault_why (Some m) offset = B3 offset

abbrev pub with_log : Option Meta → Result (List Entry) ℕ → Read
with_log meta (Err offset) = Err (fault_why meta offset)
with_log meta (Ok records) = unless meta records (count_why meta (length records))

abbrev pub read_both : Result (Option Meta) Place → Result (List Entry) ℕ → Read
read_both (Err place) log = Err (B1 place.slot place.offset)
read_both (Ok meta) log = with_log meta log

-- ---- the stores that are opened

-- the superblock as its files tell it
abbrev pub super_in : Meta → List HeldFiles → Super
super_in m held = record { a = m.a; c = m.c; need = m.need; last_mem = m.last_mem; rowsets = rowsets_in m.rowsets held }

-- its stores before the log is replayed: a MemRowSet that has nothing, and what can be read of each disk rowset
abbrev pub first_stores : Super → Placed
first_stores super = (memory, []) ∷ map (λ (d : DiskRowset). (disk d.rowset, store_with (readable d) (λ n. []))) super.rowsets

-- and after: the timestamp of the first operation that does not fit is in the way, or there is none
abbrev pub stores_after : Row → Super → List Entry → Result Placed ℕ
stores_after fill super records = opened fill super records (first_stores super) records

-- ---- all that both hold

-- the superblock as its files tell it, the records of the log, the last timestamp of both, and the stores that they make
pub record Found : Type 0 where
  pub super : Super
  pub records : List Entry
  pub last : ℕ
  pub stores : Placed

-- what is found in a fresh tablet
abbrev pub nothing : Found
nothing = record { super = fresh; records = []; last = 0; stores = (memory, []) ∷ [] }

-- timestamps from here on are refused
abbrev pub last_most : ℕ
last_most = 2 ^ 63 - 2 ^ 21

-- an operation that does not fit is a fault at the gate of its write's COMMIT
abbrev pub found_or_late : Super → List Entry → Result Placed ℕ → Result Found Why
found_or_late super records (Ok stores) = Ok (record { super = super; records = records; last = max super.c (last_of records); stores = stores })
found_or_late super records (Err ts) = Err (B3 (gate_of ts records))

-- The answer of opening to a superblock and so many records as it needs, told by the data files of a store, for a table of these columns
pub data AnswersLater (columns : List Column) (m : Meta) (records : List Entry) (store : Files) (answer : Result Found Why) : Type 0 where
  -- the first data file that is too short, or not in its grammar
  in_file : (file offset : ℕ) → IsFirstFault store m.rowsets file offset → answer ≡ Err (B2 file offset) → AnswersLater columns m records store answer
  -- the first column that is another one
  in_column : (held : List HeldFiles) (at : ℕ) → HoldAll store m.rowsets held → DifferFirst columns m.schema at → answer ≡ Err (B5 at) → AnswersLater columns m records store answer
  -- no time is left for another run
  too_late : (held : List HeldFiles) → HoldAll store m.rowsets held → AllAreLike columns m.schema → last_most ≤ max m.c (last_of records) → answer ≡ Err (B6 (max m.c (last_of records)))
      → AnswersLater columns m records store answer
  -- the stores of both, or the first operation that does not fit them
  whole : (held : List HeldFiles) → HoldAll store m.rowsets held → AllAreLike columns m.schema → max m.c (last_of records) < last_most
      → answer ≡ found_or_late (super_in m held) records (stores_after (fill_of columns) (super_in m held) records) → AnswersLater columns m records store answer

-- The answer of opening to the images of a log and of a store
pub data Answers (columns : List Column) (log store : Files) (answer : Result Found Why) : Type 0 where
  -- the slots or the log are refused, or do not go together
  at_once : (why : Why) → read_both (super_of store) (log_of log) ≡ Err why → answer ≡ Err why → Answers columns log store answer
  -- there is nothing yet
  first : read_both (super_of store) (log_of log) ≡ Ok (None, []) → answer ≡ Ok nothing → Answers columns log store answer
  -- there are a superblock and its records
  later : (m : Meta) (records : List Entry) → read_both (super_of store) (log_of log) ≡ Ok (Some m, records) → AnswersLater columns m records store answer → Answers columns log store answer
