-- Records more, under one superblock.
use Rattle.std.specs.Prelude.{◌≡◌, ◌<◌, ℕ, max, List, [], ◌∷◌, ◌++◌, take, Some, Ok}
use Rattle.kt_history.specs.declared.operation.RowOp.{RowOp}
use Rattle.kt_history.specs.Rows.{Row}
use Rattle.kt_history.specs.History.{Past, IsPastUpTo}
use Rattle.kt_history.specs.Operations.{DifferentKeys}
use Rattle.kt_records.specs.declared.entry.Entry.{Entry}
use Rattle.kt_records.specs.declared.entry.Entry.TheVariants.{Replicate, Commit}
use Rattle.kt_records.specs.declared.entry.CommitRow.{CommitRow}
use Rattle.kt_journal.specs.Log.{IsLog}
use Rattle.kt_loglaws.specs.Replay.{last_of}
use Rattle.kt_loglaws.specs.Laws.{with_ops}
use Rattle.kt_loglaws.specs.Fronts.{ops_of, with_records}
use Rattle.kt_content.specs.Places.{Super, Held}
use Rattle.kt_content.specs.MoreOps.{TellsOne}
use Rattle.kt_histlaws.specs.Flights.{AllOps}
use Rattle.kt_content.specs.KeyOps.{seen}
use Rattle.kt_content.specs.Content.{content_at, AreTold, IsContent}
use Rattle.kt_history.specs.declared.target.Target.{Target}
use Rattle.kt_content.specs.Rules.{Rules, OpsPass, RecordsPass}

-- names tell what became of an operation in the content of its key, where one store at most had it live
abbrev pub TellsIn : Row → Super → List Entry → ℕ → RowOp → List Target → Type 0
TellsIn fill super records ts op targets = (held : Held) → content_at fill super records op.key ≡ Ok held → TellsOne fill super held ts op targets

-- so do the rows of a COMMIT of these operations
abbrev pub RowsTell : Row → Super → List Entry → ℕ → List RowOp → List CommitRow → Type 0
RowsTell fill super records ts [] [] = Unit {0}
RowsTell fill super records ts [] (row ∷ rows) = ⊥
RowsTell fill super records ts (op ∷ ops) [] = ⊥
RowsTell fill super records ts (op ∷ ops) (row ∷ rows) = TellsIn fill super records ts op row.targets × RowsTell fill super records ts ops rows

-- they tell what became of the write of this timestamp, whose REPLICATE stands in the log
pub record IsTold (fill : Row) (super : Super) (records : List Entry) (ts : ℕ) (rows : List CommitRow) : Type 0 where
  pub ops : List RowOp
  pub stands : ops_of ts records ≡ Some ops
  pub tells : RowsTell fill super records ts ops rows

-- every operation on their keys has its COMMIT in the log
abbrev pub KeysAreTold : List RowOp → List Entry → Type 0
KeysAreTold ops records = AllOps (λ op. AreTold (seen op.key records records)) ops

-- Of these records behind a log, each write is above all writes before it, of which low is the last, and on keys that wait for no COMMIT, and each
-- COMMIT tells what became
-- of its write under this superblock. The superblock's own last timestamp may lie above them.
abbrev pub AllTold : Row → Super → ℕ → List Entry → List Entry → Type 0
AllTold fill super low log [] = Unit {0}
AllTold fill super low log (Replicate ts ops ∷ records) = (low < ts) × DifferentKeys ops × KeysAreTold ops log × AllTold fill super ts (log ++ Replicate ts ops ∷ []) records
AllTold fill super low log (Commit ts rows ∷ records) = IsTold fill super log ts rows × AllTold fill super low (log ++ Commit ts rows ∷ []) records

-- a REPLICATE more adds its write to the content
abbrev pub a_replicate_adds_its_write : Type 0
a_replicate_adds_its_write = (rules : Rules) (fill : Row) (super : Super) (records : List Entry) (c low : ℕ) (past : Past) (ts : ℕ) (ops : List RowOp)
    → IsLog (records ++ Replicate ts ops ∷ []) → IsContent rules fill super records c past → IsPastUpTo low past → low < ts → DifferentKeys ops
    → KeysAreTold ops records → OpsPass rules fill ops
    → IsContent rules fill super (records ++ Replicate ts ops ∷ []) (max super.c ts) (with_ops fill past ts ops) × IsPastUpTo ts (with_ops fill past ts ops)

-- a COMMIT more that tells what became of its write changes nothing of the content
abbrev pub a_commit_changes_nothing : Type 0
a_commit_changes_nothing = (rules : Rules) (fill : Row) (super : Super) (records : List Entry) (c : ℕ) (past : Past) (ts : ℕ) (rows : List CommitRow)
    → IsLog (records ++ Commit ts rows ∷ []) → IsContent rules fill super records c past → IsTold fill super records ts rows
    → IsContent rules fill super (records ++ Commit ts rows ∷ []) c past

-- records that are told go on from a content
abbrev pub a_run_goes_on : Type 0
a_run_goes_on = (rules : Rules) (fill : Row) (super : Super) (base run : List Entry) (c low : ℕ) (past : Past)
    → IsLog (base ++ run) → IsContent rules fill super base c past → IsPastUpTo low past → AllTold fill super low base run → RecordsPass rules fill run
    → IsContent rules fill super (base ++ run) (max super.c (last_of (base ++ run))) (with_records fill past run)

-- and so does each front of them
abbrev pub each_front_holds_its_writes : Type 0
each_front_holds_its_writes = (rules : Rules) (fill : Row) (super : Super) (base run : List Entry) (c low : ℕ) (past : Past) (n : ℕ)
    → IsLog (base ++ run) → IsContent rules fill super base c past → IsPastUpTo low past → AllTold fill super low base run → RecordsPass rules fill run
    → IsContent rules fill super (base ++ take n run) (max super.c (last_of (base ++ take n run))) (with_records fill past (take n run))
