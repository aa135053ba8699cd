-- A superblock that names the files and stores that the one before it named, and is told from a later mark on: what is published where no job has changed a
-- store.
use Rattle.std.specs.Prelude.{◌<◌, ◌≤◌, ℕ, List, [], ◌∷◌, ◌++◌}
use Rattle.kt_history.specs.Rows.{Row}
use Rattle.kt_history.specs.History.{Past}
use Rattle.kt_records.specs.declared.entry.Entry.{Entry}
use Rattle.kt_records.specs.declared.entry.Entry.TheVariants.{Replicate, Commit}
use Rattle.kt_journal.specs.Log.{IsLog}
use Rattle.kt_content.specs.Places.{Super}
use Rattle.kt_content.specs.Rules.{Rules}
use Rattle.kt_content.specs.Recovering.{IsRecovered, Lends, low_after}
use Rattle.kt_content.specs.Recoverable.{Resident, SuperStands}
use Rattle.kt_content.specs.Keeping.{FliesAbove}

-- the same superblock with another mark, another last timestamp and another count of records
abbrev pub with_marks : Super → ℕ → ℕ → ℕ → Super
with_marks super a c need = record { a = a; c = c; need = need; last_mem = super.last_mem; rowsets = super.rowsets }

-- each write of a run is above the last one before it
abbrev pub WritesAbove : ℕ → List Entry → Type 0
WritesAbove low [] = Unit {0}
WritesAbove low (Replicate ts ops ∷ run) = (low < ts) × WritesAbove ts run
WritesAbove low (Commit ts rows ∷ run) = WritesAbove low run

-- Where each operation without a COMMIT lies above the later mark, each front is recovered under that superblock too, and what stood under the old one stands
-- under it.
abbrev pub a_later_mark_stands : Type 0
a_later_mark_stands = (rules : Rules) (fill : Row) (old : Super) (a c need : ℕ) (durable run : List Entry) (high : ℕ) (past : Past) (live : Resident)
    → IsLog (durable ++ run) → SuperStands rules fill old durable run past live → Lends old (with_marks old a c need) durable high 0 past → WritesAbove high run
    → low_after high run ≤ live.last → ((q : List ℕ) → FliesAbove a (durable ++ run) q)
    → IsRecovered rules fill (with_marks old a c need) durable run high past × SuperStands rules fill (with_marks old a c need) durable run past live
