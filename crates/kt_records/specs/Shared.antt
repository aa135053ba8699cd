-- The records of a log that was read, which share the lists of what they list.
use Rattle.std.specs.Prelude.{◌≡◌, ◌+◌, ◌^◌, ◌<◌, ◌≤◌, ◌∷◌, ◌++◌, [], ℕ, List, length, Result, Ok, Err}
use Rattle.std.specs.List.{between}
use Rattle.kt_history.specs.declared.operation.RowOp.{RowOp}
use Rattle.kt_bytes.specs.declared.fault.CodecNo.{CodecNo}
use Rattle.kt_bytes.specs.declared.fault.CodecNo.TheVariants as answers
use Rattle.kt_records.specs.declared.entry.CommitRow.{CommitRow}
use Rattle.kt_records.specs.declared.entry.Entry.{Entry}
use Rattle.kt_records.specs.declared.entry.Entry.TheVariants.{Replicate, Commit}
use Rattle.kt_records.specs.Spelling.{spelling}
use Rattle.kt_records.specs.Rules.{KeepsRules}
use Rattle.kt_records.specs.Reading.{replicate_at, commit_at, record_of}
use Rattle.kt_records.specs.declared.reading.Which.{Which}
use Rattle.kt_records.specs.declared.reading.Which.TheVariants as which
use Rattle.kt_records.specs.declared.log_records.Head.{Head}
use Rattle.kt_records.specs.declared.log_records.Head.TheVariants as heads
use Rattle.kt_records.specs.declared.log_records.Kept.{Kept}
use Rattle.kt_records.specs.declared.log_records.RecordRef.{RecordRef}
use Rattle.kt_records.specs.declared.log_records.RecordRef.TheVariants as refs

-- the record that is read where it lies
abbrev pub entry_of : RecordRef → Entry
entry_of (refs.Replicate ts ops) = Replicate ts ops
entry_of (refs.Commit ts rows) = Commit ts rows.now

-- the rest of a record, by which of the two it is
abbrev pub read_as : Which → List ℕ → Result (Entry × List ℕ) ℕ
read_as which.Replicate bytes = replicate_at bytes
read_as which.Commit bytes = commit_at bytes

-- the record of this head, of all operations and all rows
abbrev pub entry_in : List RowOp → List CommitRow → Head → Entry
entry_in ops rows (heads.Replicate ts first count) = Replicate ts (between first (first + count) ops)
entry_in ops rows (heads.Commit ts first count) = Commit ts (between first (first + count) rows)

-- what it lists is among these
abbrev pub IsWithin : List RowOp → List CommitRow → Head → Type 0
IsWithin ops rows (heads.Replicate ts first count) = (first + count ≤ length ops) × (first + count < 2 ^ 64)
IsWithin ops rows (heads.Commit ts first count) = (first + count ≤ length rows) × (first + count < 2 ^ 64)

abbrev pub entry_kept : List RowOp → List CommitRow → Kept → Entry
entry_kept ops rows kept = entry_in ops rows kept.head

-- its spelling is as long as it says
pub record IsKept (ops : List RowOp) (rows : List CommitRow) (kept : Kept) : Type 0 where
  pub within : IsWithin ops rows kept.head
  pub long : kept.len ≡ length (spelling (entry_kept ops rows kept))

-- what it lists is all that stands among these behind so many
abbrev pub IsNewest : ℕ → ℕ → List RowOp → List CommitRow → Head → Type 0
IsNewest n m ops rows (heads.Replicate ts first count) = (first ≡ n) × (first + count ≡ length ops) × (length ops < 2 ^ 64)
IsNewest n m ops rows (heads.Commit ts first count) = (first ≡ m) × (first + count ≡ length rows) × (length rows < 2 ^ 64)

-- the record of a head was answered, unless memory ran out
abbrev pub Tells : {X : Type 0} → (X → Entry) → Result X CodecNo → Result Entry ℕ → Type 0
Tells entry (Ok x) read = read ≡ Ok (entry x)
Tells entry (Err (answers.Place offset)) read = read ≡ Err offset
Tells entry (Err answers.Memory) read = Unit {0}

-- the record that these bytes spell was added behind those before it
pub record Added (bytes : List ℕ) (old new : List Entry) : Type 0 where
  pub entry : Entry
  pub keeps : KeepsRules entry
  pub spelled : bytes ≡ spelling entry
  pub read : record_of bytes ≡ Ok entry
  pub added : new ≡ old ++ entry ∷ []

-- it was, unless memory ran out. Where the bytes spell none, or without memory, the records stay
abbrev pub Adds : {X : Type 0} → List ℕ → List Entry → List Entry → Result X CodecNo → Type 0
Adds bytes old new (Ok x) = Added bytes old new
Adds bytes old new (Err (answers.Place offset)) = (record_of bytes ≡ Err offset) × (new ≡ old)
Adds bytes old new (Err answers.Memory) = new ≡ old
