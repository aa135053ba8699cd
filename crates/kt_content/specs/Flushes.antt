-- The superblock that a flush publishes while nothing flies and every record is durable.
use Rattle.std.specs.Prelude.{◌≡◌, ◌≤◌, ℕ, Bool, true, false, is_some, nat_lt, List, [], ◌∷◌, ◌++◌, map}
use Rattle.kt_records.specs.declared.entry.Entry.{Entry}
use Rattle.kt_records.specs.declared.entry.Entry.TheVariants.{Replicate, Commit}
use Rattle.kt_history.specs.History.{Past}
use Rattle.kt_history.specs.Rows.{Row}
use Rattle.kt_journal.specs.Log.{IsLog}
use Rattle.kt_loglaws.specs.Replay.{commit_of}
use Rattle.kt_histlaws.specs.Fitting.{AreSound}
use Rattle.kt_histlaws.specs.Jobs.{AreAlike}
use Rattle.kt_history.specs.Stores.{never}
use Rattle.kt_rowfiles.specs.Files.{DiskRowset, hist_in_files}
use Rattle.kt_content.specs.Rules.{Rules, RowsetsPass}
use Rattle.kt_content.specs.Places.{Super, Place, memory, disk, in_files}
use Rattle.kt_content.specs.Content.{NumbersDiffer}
use Rattle.kt_content.specs.InMemory.{Stores, group, hist_at}
use Rattle.kt_content.specs.RunEvents.{Numbers, RowsetsBelow, RecordsBelow, NumbersAreFresh}
use Rattle.kt_content.specs.Recovering.{Lends}
use Rattle.kt_content.specs.Recoverable.{Resident, SuperStands}
use Rattle.kt_content.specs.OneVisit.{PublishesAtRest}

-- A flush leaves the disk rowsets below the next rowset number
abbrev pub below : ℕ → Place → Bool
below next memory = false
below next (disk r) = nat_lt r next

-- the outputs stand behind the rowsets that are there
abbrev pub flushed : Super → ℕ → ℕ → ℕ → ℕ → List DiskRowset → Super
flushed old a c need last_mem outputs = record { a = a; c = c; need = need; last_mem = last_mem; rowsets = old.rowsets ++ outputs }

-- and have numbers from the next one on
abbrev pub AreFrom : ℕ → List DiskRowset → Type 0
AreFrom next [] = Unit {0}
AreFrom next (d ∷ outputs) = (next ≤ d.rowset) × AreFrom next outputs

-- each write has its COMMIT
abbrev pub EachTold : List Entry → List Entry → Type 0
EachTold all [] = Unit {0}
EachTold all (Replicate ts ops ∷ records) = (is_some (commit_of ts all) ≡ true) × EachTold all records
EachTold all (Commit ts rows ∷ records) = EachTold all records

abbrev pub before : ℕ → ℕ → Numbers
before next last_mem = record { next = next; active = last_mem; deltas = [] }

-- What a flush has: its outputs are alike to the MemRowSets in memory, which stand for no place of an opening any more; no record names a MemRowSet that came
-- since; and the one that takes inserts has nothing.
pub record Flushes (rules : Rules) (old : Super) (a c need last_mem next : ℕ) (outputs : List DiskRowset) (records : List Entry) (stores : List ℕ → Stores) (j : ℕ) : Type 0 where
  pub old_differ : NumbersDiffer old.rowsets
  pub new_differ : NumbersDiffer outputs
  pub rowsets : RowsetsBelow (before next last_mem) old.rowsets
  pub outputs_from : AreFrom next outputs
  pub names : RecordsBelow (before next last_mem) records
  pub told : EachTold records records
  pub old_pass : RowsetsPass rules old.rowsets
  pub new_pass : RowsetsPass rules outputs
  pub alike : (q : List ℕ) → AreAlike j (group old memory (stores q)) (map (hist_in_files q) outputs)
  pub sound : (q : List ℕ) → AreSound a (map (hist_in_files q) outputs)
  pub active : (q : List ℕ) → AreAlike a (group (flushed old a c need last_mem outputs) memory (stores q)) (never ∷ [])
  pub outs : (q : List ℕ) (r : ℕ) → nat_lt r next ≡ false → AreAlike a (group (flushed old a c need last_mem outputs) (disk r) (stores q)) (hist_at (disk r) (in_files q outputs) ∷ [])
  pub others : (q : List ℕ) (r : ℕ) → nat_lt r next ≡ true → group (flushed old a c need last_mem outputs) (disk r) (stores q) ≡ group old (disk r) (stores q)

abbrev pub a_flush_publishes_at_rest : Type 0
a_flush_publishes_at_rest = (rules : Rules) (old : Super) (a c need last_mem next : ℕ) (outputs : List DiskRowset) (records : List Entry) (stores : List ℕ → Stores) (j : ℕ)
    → Flushes rules old a c need last_mem next outputs records stores j
    → PublishesAtRest rules (below next) old (flushed old a c need last_mem outputs) records stores j

-- So it stands, where the one before it did.
abbrev pub a_flush_stands : Type 0
a_flush_stands = (rules : Rules) (fill : Row) (old : Super) (a c need last_mem next : ℕ) (outputs : List DiskRowset) (durable : List Entry) (high j : ℕ) (past : Past) (live : Resident)
    → IsLog (durable ++ []) → SuperStands rules fill old durable [] past live → live.named ≡ []
    → Flushes rules old a c need last_mem next outputs (durable ++ []) live.stores j
    → Lends old (flushed old a c need last_mem outputs) durable high j past → high ≤ live.last
    → NumbersAreFresh (flushed old a c need last_mem outputs) (durable ++ []) live.names live.numbers
    → SuperStands rules fill (flushed old a c need last_mem outputs) durable [] past live
