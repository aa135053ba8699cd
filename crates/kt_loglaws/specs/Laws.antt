-- What records more do to what a log holds.
use Rattle.std.specs.Prelude.{◌≡◌, ◌<◌, ℕ, ◌-◌, List, [], ◌∷◌, ◌++◌, Ok, is_some}
use Rattle.kt_history.specs.declared.operation.RowOp.{RowOp}
use Rattle.kt_history.specs.Rows.{Row, Rows}
use Rattle.kt_history.specs.History.{Past, rows_at, with_write}
use Rattle.kt_history.specs.Operations.{changes_on, effect_on}
use Rattle.kt_records.specs.declared.entry.Entry.{Entry}
use Rattle.kt_records.specs.declared.entry.Entry.TheVariants.{Replicate, Commit}
use Rattle.kt_records.specs.declared.entry.CommitRow.{CommitRow}
use Rattle.kt_journal.specs.Log.{IsLog}
use Rattle.kt_loglaws.specs.Replay.{replay, last_of, empty, is_needed}

-- the past and a write of these operations
abbrev pub with_ops : Row → Past → ℕ → List RowOp → Past
with_ops fill past ts ops = with_write past ts (changes_on fill (rows_at past (ts - 1)) ops)

-- a log of these records holds this past
abbrev pub LogHolds : Row → List Entry → Past → Type 0
LogHolds fill records past = replay fill records empty records ≡ Ok past

-- a REPLICATE at the end adds its write
abbrev pub a_replicate_adds_its_write : Type 0
a_replicate_adds_its_write = (fill : Row) (records : List Entry) (past : Past) (ts : ℕ) (ops : List RowOp) → IsLog (records ++ Replicate ts ops ∷ [])
    → LogHolds fill records past
    → LogHolds fill (records ++ Replicate ts ops ∷ []) (with_ops fill past ts ops) × (last_of (records ++ Replicate ts ops ∷ []) ≡ ts)

-- the rows of a COMMIT call needed exactly the operations that changed these rows
pub data Tells (fill : Row) (rows : Rows) : List RowOp → List CommitRow → Type 0 where
  nothing : Tells fill rows [] []
  and_one : {op : RowOp} {row : CommitRow} {ops : List RowOp} {commits : List CommitRow} → is_needed row ≡ is_some (effect_on fill rows op).0 → Tells fill rows ops commits → Tells fill rows (op ∷ ops) (row ∷ commits)

-- a COMMIT anywhere behind its REPLICATE that tells what became of its write changes nothing, whatever else stands between and behind
abbrev pub a_commit_changes_nothing : Type 0
a_commit_changes_nothing = (fill : Row) (before : List Entry) (ts : ℕ) (ops : List RowOp) (between : List Entry) (rows : List CommitRow) (behind : List Entry) (past : Past)
    → IsLog (before ++ Replicate ts ops ∷ (between ++ Commit ts rows ∷ behind)) → 0 < ts
    → LogHolds fill (before ++ Replicate ts ops ∷ (between ++ behind)) past → Tells fill (rows_at past (ts - 1)) ops rows
    → LogHolds fill (before ++ Replicate ts ops ∷ (between ++ Commit ts rows ∷ behind)) past
    × (last_of (before ++ Replicate ts ops ∷ (between ++ Commit ts rows ∷ behind)) ≡ last_of (before ++ Replicate ts ops ∷ (between ++ behind)))
