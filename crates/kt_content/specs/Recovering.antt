-- A superblock from which each front of the log can be recovered.
use Rattle.std.specs.Prelude.{◌≡◌, ◌<◌, ◌≤◌, ℕ, Bool, max, List, [], ◌∷◌, ◌++◌, take, Some, length}
use Rattle.kt_history.specs.declared.operation.RowOp.{RowOp}
use Rattle.kt_history.specs.Rows.{Row}
use Rattle.kt_history.specs.History.{Past, IsPastUpTo, raise}
use Rattle.kt_history.specs.Operations.{DifferentKeys}
use Rattle.kt_records.specs.declared.entry.Entry.{Entry}
use Rattle.kt_records.specs.declared.entry.Entry.TheVariants.{Replicate, Commit}
use Rattle.kt_records.specs.declared.entry.CommitRow.{CommitRow}
use Rattle.kt_journal.specs.Log.{IsLog}
use Rattle.kt_loglaws.specs.Replay.{last_of}
use Rattle.kt_loglaws.specs.Fronts.{ops_of, with_records}
use Rattle.kt_content.specs.Places.{Super, Place}
use Rattle.kt_content.specs.Content.{IsContent}
use Rattle.kt_content.specs.Records.{RowsTell, IsTold, KeysAreTold, AllTold}
use Rattle.kt_content.specs.Replacing.{ReplacesAtOnce, Replaces}
use Rattle.kt_content.specs.Rules.{Rules, OpsPass, RecordsPass}

-- what a COMMIT tells is true in the content of all records
pub record IsTrueIn (fill : Row) (super : Super) (all log : List Entry) (ts : ℕ) (rows : List CommitRow) : Type 0 where
  pub ops : List RowOp
  pub stands : ops_of ts log ≡ Some ops
  pub tells : RowsTell fill super all ts ops rows

-- of each COMMIT of a run, which stands behind this log
abbrev pub AllTrue : Row → Super → List Entry → ℕ → List Entry → List Entry → Type 0
AllTrue fill super all low log [] = Unit {0}
AllTrue fill super all low log (Replicate ts ops ∷ run) = (low < ts) × DifferentKeys ops × KeysAreTold ops log × AllTrue fill super all ts (log ++ Replicate ts ops ∷ []) run
AllTrue fill super all low log (Commit ts rows ∷ run) = IsTrueIn fill super all log ts rows × AllTrue fill super all low (log ++ Commit ts rows ∷ []) run

-- where all records of a log hold a past with the writes of a run, the records before the run hold it without them, and the run is told
abbrev pub a_content_is_recovered : Type 0
a_content_is_recovered = (rules : Rules) (fill : Row) (super : Super) (base run : List Entry) (c low : ℕ) (past : Past)
    → IsLog (base ++ run) → IsContent rules fill super (base ++ run) c (with_records fill past run) → IsPastUpTo low past → past.mark ≡ super.a
    → low ≤ max super.c (last_of base) → AllTrue fill super (base ++ run) low base run
    → super.need ≤ length base
    → IsContent rules fill super base (max super.c (last_of base)) past × AllTold fill super low base run

-- Under a superblock, and with so many records durable, each front of the log from there on holds the past with the writes of the front.
-- The run is what is not durable: the records that are out, and those queued.
pub record IsRecovered (rules : Rules) (fill : Row) (super : Super) (durable run : List Entry) (low : ℕ) (past : Past) : Type 0 where
  pub content : IsContent rules fill super durable (max super.c (last_of durable)) (raise past super.a)
  pub told : AllTold fill super low durable run
  pub ends : IsPastUpTo low past
  pub marked : past.mark ≤ super.a
  pub low_enough : super.a ≤ low
  pub passes : RecordsPass rules fill run

abbrev pub each_front_is_recovered : Type 0
each_front_is_recovered = (rules : Rules) (fill : Row) (super : Super) (durable run : List Entry) (low : ℕ) (past : Past) (n : ℕ) → IsLog (durable ++ run)
    → IsRecovered rules fill super durable run low past
    → IsContent rules fill super (durable ++ take n run) (max super.c (last_of (durable ++ take n run))) (raise (with_records fill past (take n run)) super.a)

-- the last write of a run, or of what was before it
abbrev pub low_after : ℕ → List Entry → ℕ
low_after low [] = low
low_after low (Replicate ts ops ∷ run) = low_after ts run
low_after low (Commit ts rows ∷ run) = low_after low run

-- a REPLICATE more is queued
abbrev pub a_replicate_more_is_recovered : Type 0
a_replicate_more_is_recovered = (rules : Rules) (fill : Row) (super : Super) (durable run : List Entry) (low : ℕ) (past : Past) (ts : ℕ) (ops : List RowOp)
    → IsRecovered rules fill super durable run low past → low_after low run < ts → DifferentKeys ops → KeysAreTold ops (durable ++ run)
    → OpsPass rules fill ops
    → IsRecovered rules fill super durable (run ++ Replicate ts ops ∷ []) low past

-- a COMMIT more is queued, which tells what became of its write in the content of all records before it
abbrev pub a_commit_more_is_recovered : Type 0
a_commit_more_is_recovered = (rules : Rules) (fill : Row) (super : Super) (durable run : List Entry) (low : ℕ) (past : Past) (ts : ℕ) (rows : List CommitRow)
    → IsRecovered rules fill super durable run low past → IsTold fill super (durable ++ run) ts rows
    → IsRecovered rules fill super durable (run ++ Commit ts rows ∷ []) low past

-- the first records of the run are durable now
abbrev pub records_become_durable : Type 0
records_become_durable = (rules : Rules) (fill : Row) (super : Super) (durable out queued : List Entry) (low : ℕ) (past : Past) → IsLog (durable ++ (out ++ queued))
    → IsRecovered rules fill super durable (out ++ queued) low past
    → IsRecovered rules fill super (durable ++ out) queued (low_after low out) (with_records fill past out)

-- The marks of the superblock that a job publishes, while it is lent, and that it needs no more records than are durable. Where it holds over all
-- records of the log what the old one holds, and of the records that are not durable each COMMIT tells what became of its write under it,
-- each front is recovered under it too.
pub record Lends (old new : Super) (durable : List Entry) (low j : ℕ) (past : Past) : Type 0 where
  pub enough : new.need ≤ length durable
  pub mark : old.a ≤ new.a
  pub job : j ≤ new.a
  pub last : old.c ≤ new.c
  pub up : low ≤ new.c
  pub marked : new.a ≤ low
  pub ends : IsPastUpTo low past

abbrev pub a_superblock_that_holds_the_same_is_recovered : Type 0
a_superblock_that_holds_the_same_is_recovered = (rules : Rules) (fill : Row) (old new : Super) (durable run : List Entry) (low high j : ℕ) (past : Past)
    → IsLog (durable ++ run) → IsRecovered rules fill old durable run low past → Lends old new durable high j past
    → (IsContent rules fill old (durable ++ run) (max old.c (last_of (durable ++ run))) (raise (with_records fill past run) old.a)
    → IsContent rules fill new (durable ++ run) (max new.c (last_of (durable ++ run))) (raise (raise (with_records fill past run) old.a) new.a))
    → AllTrue fill new (durable ++ run) high durable run → IsRecovered rules fill new durable run high past

abbrev pub a_lent_superblock_is_recovered : Type 0
a_lent_superblock_is_recovered = (rules : Rules) (fill : Row) (keep : Place → Bool) (old new : Super) (durable run : List Entry) (low high j : ℕ) (past : Past)
    → IsLog (durable ++ run) → IsRecovered rules fill old durable run low past → Replaces rules fill keep old new (durable ++ run) j → Lends old new durable high j past
    → AllTrue fill new (durable ++ run) high durable run
    → IsRecovered rules fill new durable run high past

abbrev pub a_superblock_published_at_once_is_recovered : Type 0
a_superblock_published_at_once_is_recovered = (rules : Rules) (fill : Row) (keep : Place → Bool) (old new : Super) (durable run : List Entry) (low high j : ℕ) (past : Past)
    → IsLog (durable ++ run) → IsRecovered rules fill old durable run low past → ReplacesAtOnce rules fill keep old new (durable ++ run) j
    → Lends old new durable high j past → AllTrue fill new (durable ++ run) high durable run
    → IsRecovered rules fill new durable run high past
