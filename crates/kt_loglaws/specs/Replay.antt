-- What the records of a log make of an empty table: each write in turn, as far as its COMMIT says that it is still needed.
use Rattle.std.specs.Prelude.{ℕ, ◌+◌, ◌-◌, max, ◌==◌, nat_lt, Bool, true, false, is_some, List, [], ◌∷◌, length, Option, Some, None, Result, Ok, Err, if◌then◌else◌}
use Rattle.std.specs.List.{list_any, list_all}
use Rattle.kt_history.specs.declared.target.Target.{Target}
use Rattle.kt_history.specs.declared.target.Target.TheVariants.{Mem, Delta}
use Rattle.kt_history.specs.declared.operation.RowOp.{RowOp}
use Rattle.kt_history.specs.Rows.{Row, Rows}
use Rattle.kt_history.specs.History.{Past, rows_at, with_write}
use Rattle.kt_history.specs.Operations.{effect_on, changes_on}
use Rattle.kt_records.specs.declared.entry.Entry.{Entry}
use Rattle.kt_records.specs.declared.entry.Entry.TheVariants.{Replicate, Commit}
use Rattle.kt_records.specs.declared.entry.CommitRow.{CommitRow}
use Rattle.kt_records.specs.Spelling.{spelling}

-- a MemRowSet that is not yet durable anywhere else. They are numbered from 1
abbrev pub is_in_memory : Target → Bool
is_in_memory (Mem number) = nat_lt 0 number
is_in_memory (Delta rowset dms) = false

-- an operation is still needed where a store that it changed is in memory alone
abbrev pub is_needed : CommitRow → Bool
is_needed row = list_any is_in_memory row.targets

-- the operations that are still needed, by the rows of their COMMIT
abbrev pub needed_ops : List RowOp → List CommitRow → List RowOp
needed_ops [] rows = []
needed_ops (op ∷ ops) [] = []
needed_ops (op ∷ ops) (row ∷ rows) = if is_needed row then op ∷ needed_ops ops rows else needed_ops ops rows

-- the rows of the COMMIT of the write of this timestamp, if it has one
abbrev pub commit_of : ℕ → List Entry → Option (List CommitRow)
commit_of ts [] = None
commit_of ts (Replicate t ops ∷ records) = commit_of ts records
commit_of ts (Commit t rows ∷ records) = if t == ts then Some rows else commit_of ts records

-- the operations of a write that are replayed: those still needed, and all of a write without a COMMIT
abbrev pub replayed : List RowOp → Option (List CommitRow) → List RowOp
replayed ops None = ops
replayed ops (Some rows) = needed_ops ops rows

-- each operation changes its row
abbrev pub all_change : Row → Rows → List RowOp → Bool
all_change fill rows ops = list_all (λ op. is_some (effect_on fill rows op).0) ops

-- what a COMMIT calls needed has to fit the rows. Without a COMMIT an operation that changes nothing is no fault
abbrev pub is_fitting : Row → Rows → List RowOp → Option (List CommitRow) → Bool
is_fitting fill rows ops None = true
is_fitting fill rows ops (Some commits) = all_change fill rows (needed_ops ops commits)

-- the past after these records, of the log that holds all; or the timestamp of the first write of which a needed operation does not fit
abbrev pub replay : Row → List Entry → Past → List Entry → Result Past ℕ
replay fill all past [] = Ok past
replay fill all past (Commit ts rows ∷ records) = replay fill all past records
replay fill all past (Replicate ts ops ∷ records) =
    if is_fitting fill (rows_at past (ts - 1)) ops (commit_of ts all)
    then replay fill all (with_write past ts (changes_on fill (rows_at past (ts - 1)) (replayed ops (commit_of ts all)))) records
    else Err ts

-- the greatest timestamp of a write, or 0
abbrev pub last_of : List Entry → ℕ
last_of [] = 0
last_of (Replicate ts ops ∷ records) = max ts (last_of records)
last_of (Commit ts rows ∷ records) = last_of records

-- a fresh table
abbrev pub empty : Past
empty = record { mark = 0; base = []; writes = [] }

-- the offset of the gate of the COMMIT of this timestamp
abbrev pub gate_of : ℕ → List Entry → ℕ
gate_of ts [] = 0
gate_of ts (Replicate t ops ∷ records) = 5 + length (spelling (Replicate t ops)) + gate_of ts records
gate_of ts (Commit t rows ∷ records) = if t == ts then 0 else 5 + length (spelling (Commit t rows)) + gate_of ts records
