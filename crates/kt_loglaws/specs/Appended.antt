-- What a crash left of a log at each moment while batches were appended to it, one behind another.
use Rattle.std.specs.Prelude.{◌≡◌, ◌≤◌, ℕ, Bool, IsTrue, List, [], ◌∷◌, ◌++◌}
use Rattle.std.specs.List.{Contains}
use Rattle.kt_disk.specs.Disk.{Files}
use Rattle.kt_history.specs.declared.operation.RowOp.{RowOp}
use Rattle.kt_records.specs.declared.entry.Entry.{Entry}
use Rattle.kt_records.specs.declared.entry.Entry.TheVariants.{Replicate, Commit}
use Rattle.kt_records.specs.declared.entry.CommitRow.{CommitRow}
use Rattle.kt_journal.specs.Log.{records_of, Holds, IsOldOrBoth}

-- each COMMIT among these records is of a write that stands in the log
abbrev pub AreOfLogged : List Entry → List Entry → Type 0
AreOfLogged log records = (ts : ℕ) (rows : List CommitRow) → Contains records (Commit ts rows) → (ops : List RowOp) × Contains log (Replicate ts ops)

-- a batch, and the moment at which its append was over
pub record Append : Type 0 where
  pub batch : List Entry
  pub over : ℕ

-- the records behind such appends, the last of which comes first, and the moment at which that was over
abbrev pub records_after : List Entry → List Append → List Entry
records_after first [] = first
records_after first (a ∷ appends) = records_after first appends ++ a.batch

abbrev pub moment_after : ℕ → List Append → ℕ
moment_after from [] = from
moment_after from (a ∷ appends) = a.over

-- At each moment of an append a crash left the records from before it, or these and the batch. A write and its COMMIT are never in one batch, so that the
-- write has been durable before its COMMIT came.
pub record IsAppend (left : ℕ → Files → Type 0) (from : ℕ) (before : List Entry) (a : Append) : Type 0 where
  pub later : from ≤ a.over
  pub of_logged : AreOfLogged before a.batch
  pub each : (m : ℕ) (c : Files) → from ≤ m → m ≤ a.over → left m c → IsOldOrBoth before a.batch (c 1)

abbrev pub AreAppends : (ℕ → Files → Type 0) → ℕ → List Entry → List Append → Type 0
AreAppends left from first [] = Unit {0}
AreAppends left from first (a ∷ appends) = AreAppends left from first appends × IsAppend left (moment_after from appends) (records_after first appends) a

-- From one disk to another nothing was done to the log but such appends, from the first moment to the last. The moments before are as they were. Unless the
-- last append has failed all of its records are durable.
pub record WasAppended {L : Type 0} (seen : L → Files) (now : L → ℕ) (leaves : L → ℕ → Files → Type 0) (whole : Bool) (old new : L) : Type 0 where
  pub appends : List Append
  pub are : AreAppends (leaves new) (now old) (records_of (seen old)) appends
  pub last : moment_after (now old) appends ≡ now new
  pub past : (m : ℕ) (c : Files) → m ≤ now old → leaves new m c → leaves old m c
  pub keeps : (m : ℕ) (c : Files) → m ≤ now old → leaves old m c → leaves new m c
  pub durable : IsTrue whole → Holds now leaves new (records_after (records_of (seen old)) appends)
