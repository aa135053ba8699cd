-- Any front of a log: what a crash leaves while writes fly.
use Rattle.std.specs.Prelude.{◌≡◌, ◌<◌, ◌≤◌, ℕ, ◌-◌, nat_le, ◌==◌, List, [], ◌∷◌, ◌++◌, take, Option, Some, None, Ok, if◌then◌else◌}
use Rattle.std.specs.List.{filter, Contains}
use Rattle.kt_history.specs.declared.operation.RowOp.{RowOp}
use Rattle.kt_history.specs.Rows.{Row}
use Rattle.kt_history.specs.History.{Past, rows_at}
use Rattle.kt_records.specs.declared.entry.Entry.{Entry}
use Rattle.kt_records.specs.declared.entry.Entry.TheVariants.{Replicate, Commit}
use Rattle.kt_records.specs.declared.entry.CommitRow.{CommitRow}
use Rattle.kt_disk.specs.Disk.{bytes_of}
use Rattle.kt_journal.specs.Log.{IsLog, log_in, IsOldOrBoth}
use Rattle.kt_loglaws.specs.Replay.{last_of}
use Rattle.kt_loglaws.specs.Laws.{with_ops, LogHolds, Tells}

-- the operations of the write of this timestamp
abbrev pub ops_of : ℕ → List Entry → Option (List RowOp)
ops_of ts [] = None
ops_of ts (Replicate t ops ∷ records) = if t == ts then Some ops else ops_of ts records
ops_of ts (Commit t rows ∷ records) = ops_of ts records

-- these rows tell what became of the write of this timestamp, whose REPLICATE stands in the log
pub record IsTold (fill : Row) (log : List Entry) (past : Past) (ts : ℕ) (rows : List CommitRow) : Type 0 where
  pub up : 0 < ts
  pub ops : List RowOp
  pub stands : ops_of ts log ≡ Some ops
  pub tells : Tells fill (rows_at past (ts - 1)) ops rows

-- the past and the write of each REPLICATE among these records
abbrev pub with_records : Row → Past → List Entry → Past
with_records fill past [] = past
with_records fill past (Replicate ts ops ∷ records) = with_records fill (with_ops fill past ts ops) records
with_records fill past (Commit ts rows ∷ records) = with_records fill past records

-- of these records behind a log that holds this past, each write is above 0 and each COMMIT tells what became of its write
abbrev pub AllTold : Row → List Entry → Past → List Entry → Type 0
AllTold fill log past [] = Unit {0}
AllTold fill log past (Replicate ts ops ∷ records) = (0 < ts) × AllTold fill (log ++ Replicate ts ops ∷ []) (with_ops fill past ts ops) records
AllTold fill log past (Commit ts rows ∷ records) = IsTold fill log past ts rows × AllTold fill (log ++ Commit ts rows ∷ []) past records

-- the past with its writes up to a timestamp
abbrev pub upto : ℕ → Past → Past
upto t past = record past { writes = filter (λ w. nat_le w.ts t) past.writes }

-- each write whose REPLICATE is among these records is at or below t
abbrev pub AtLeastEach : ℕ → List Entry → Type 0
AtLeastEach t records = (ts : ℕ) (ops : List RowOp) → Contains records (Replicate ts ops) → ts ≤ t

-- a REPLICATE more is told
abbrev pub a_replicate_more_is_told : Type 0
a_replicate_more_is_told = (fill : Row) (log : List Entry) (past : Past) (records : List Entry) (ts : ℕ) (ops : List RowOp) → AllTold fill log past records → 0 < ts
    → AllTold fill log past (records ++ Replicate ts ops ∷ []) × (with_records fill past (records ++ Replicate ts ops ∷ []) ≡ with_ops fill (with_records fill past records) ts ops)

-- a COMMIT more is told, where it tells what became of its write
abbrev pub a_commit_more_is_told : Type 0
a_commit_more_is_told = (fill : Row) (log : List Entry) (past : Past) (records : List Entry) (ts : ℕ) (rows : List CommitRow) → AllTold fill log past records → IsTold fill (log ++ records) (with_records fill past records) ts rows
    → AllTold fill log past (records ++ Commit ts rows ∷ []) × (with_records fill past (records ++ Commit ts rows ∷ []) ≡ with_records fill past records)

-- the records of an opened log and those of a run hold the opened past and the writes of the run
abbrev pub a_run_goes_on_from_the_opened_past : Type 0
a_run_goes_on_from_the_opened_past = (fill : Row) (opened run : List Entry) (past : Past) → IsLog (opened ++ run) → LogHolds fill opened past → AllTold fill opened past run
    → LogHolds fill (opened ++ run) (with_records fill past run)

-- each front of them is a log, and holds that past up to the greatest timestamp of the front, which is at or above each write of the front
abbrev pub each_front_holds_its_writes : Type 0
each_front_holds_its_writes = (fill : Row) (opened run : List Entry) (past : Past) (n : ℕ) → IsLog (opened ++ run) → LogHolds fill opened past → AllTold fill opened past run
    → IsLog (opened ++ take n run) × LogHolds fill (opened ++ take n run) (upto (last_of (opened ++ take n run)) (with_records fill past run)) × AtLeastEach (last_of (opened ++ take n run)) (take n run)

-- A file that a crash left holds the past up to some t, at or above each write that was durable.
pub record HoldsUpTo (fill : Row) (past : Past) (durable : List Entry) (file : Option (List ℕ)) : Type 0 where
  pub records : List Entry
  pub reads : log_in (bytes_of file) ≡ Ok records
  pub t : ℕ
  pub holds : LogHolds fill records (upto t past)
  pub last : last_of records ≤ t
  pub keeps : AtLeastEach t durable

-- A crash while a batch is out, or after its append failed, leaves the opened past with the writes up to some t, each
-- durable one among them: where the file has the durable records, or these and the batch
abbrev pub a_crash_leaves_the_past_up_to_a_time : Type 0
a_crash_leaves_the_past_up_to_a_time = (fill : Row) (opened durable out queued : List Entry) (past : Past) (file : Option (List ℕ))
    → IsLog (opened ++ (durable ++ (out ++ queued))) → LogHolds fill opened past → AllTold fill opened past (durable ++ (out ++ queued))
    → IsOldOrBoth (opened ++ durable) out file → HoldsUpTo fill (with_records fill past (durable ++ (out ++ queued))) durable file
