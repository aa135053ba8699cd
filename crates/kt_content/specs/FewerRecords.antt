-- The last record of a log taken off again: what a shorter front holds, where it is known what the longer one holds.
use Rattle.std.specs.Prelude.{◌≡◌, ◌<◌, ◌≤◌, ℕ, max, List, [], ◌∷◌, ◌++◌, Ok, length}
use Rattle.kt_history.specs.declared.operation.RowOp.{RowOp}
use Rattle.kt_history.specs.Rows.{Row}
use Rattle.kt_history.specs.History.{Past, IsPastUpTo}
use Rattle.kt_history.specs.Operations.{DifferentKeys}
use Rattle.kt_records.specs.declared.entry.Entry.{Entry}
use Rattle.kt_records.specs.declared.entry.Entry.TheVariants.{Replicate, Commit}
use Rattle.kt_records.specs.declared.entry.CommitRow.{CommitRow}
use Rattle.kt_journal.specs.Log.{IsLog}
use Rattle.kt_history.specs.Stores.{Hist, Under}
use Rattle.kt_loglaws.specs.Replay.{last_of}
use Rattle.kt_loglaws.specs.Laws.{with_ops}
use Rattle.kt_content.specs.Places.{Super, Held}
use Rattle.kt_content.specs.KeyOps.{KeyOp, played}
use Rattle.kt_content.specs.Content.{Shown, IsContent}
use Rattle.kt_content.specs.MoreOps.{PlacesDiffer, BeginsInMemory, untold, with_op}
use Rattle.kt_content.specs.Records.{IsTold, KeysAreTold}
use Rattle.kt_content.specs.Rules.{Rules}

-- stores that show a history with an operation above all that is there have shown the history without it
abbrev pub an_operation_less_is_shown : Type 0
an_operation_less_is_shown = (fill : Row) (super : Super) (a ts : ℕ) (held next : Held) (whole : Hist) (xs : List KeyOp) (op : RowOp)
    → PlacesDiffer held → BeginsInMemory held → played fill super held (xs ++ untold ts op ∷ []) ≡ Ok next → Shown a next (with_op fill ts op whole)
    → Under ts whole.steps → a < ts
    → (final : Held) × (played fill super held xs ≡ Ok final) × Shown a final whole

-- without the REPLICATE of the last write, whose keys wait for no COMMIT, the content is without that write
abbrev pub a_replicate_less_takes_its_write : Type 0
a_replicate_less_takes_its_write = (rules : Rules) (fill : Row) (super : Super) (records : List Entry) (c low : ℕ) (past : Past) (ts : ℕ) (ops : List RowOp)
    → IsLog (records ++ Replicate ts ops ∷ []) → IsContent rules fill super (records ++ Replicate ts ops ∷ []) c (with_ops fill past ts ops) → IsPastUpTo low past
    → low < ts → low ≤ max super.c (last_of records) → past.mark ≡ super.a → DifferentKeys ops → KeysAreTold ops records
    → super.need ≤ length records
    → IsContent rules fill super records (max super.c (last_of records)) past

-- without a COMMIT that tells what became of its write, the content is the same
abbrev pub a_commit_less_changes_nothing : Type 0
a_commit_less_changes_nothing = (rules : Rules) (fill : Row) (super : Super) (records : List Entry) (c : ℕ) (past : Past) (ts : ℕ) (rows : List CommitRow)
    → IsLog (records ++ Commit ts rows ∷ []) → IsContent rules fill super (records ++ Commit ts rows ∷ []) c past
    → IsTold fill super (records ++ Commit ts rows ∷ []) ts rows
    → super.need ≤ length records → IsContent rules fill super records c past
