-- A job that writes the files of one disk rowset again, with the changes of its DeltaMemStores, while nothing flies and every record is durable. The stores in memory
-- stay as they are.
use Rattle.std.specs.Prelude.{◌≡◌, ◌≤◌, ◌==◌, ℕ, true, false, is_some, List, [], ◌∷◌, ◌++◌, map, length}
use Rattle.std.specs.List.{AllByRecursion}
use Rattle.kt_history.specs.declared.changes.Delta.{Delta}
use Rattle.kt_history.specs.History.{Past}
use Rattle.kt_history.specs.Rows.{Row, Rows}
use Rattle.kt_history.specs.Stores.{Hist}
use Rattle.kt_history.specs.Views.{AreRising}
use Rattle.kt_records.specs.declared.entry.Entry.{Entry}
use Rattle.kt_journal.specs.Log.{IsLog}
use Rattle.kt_histlaws.specs.Fitting.{AreSound}
use Rattle.kt_rowfiles.specs.Files.{DiskRowset, hist_in_files}
use Rattle.kt_rowfiles.specs.Fitting.{undos_fit}
use Rattle.kt_deltafile.specs.declared.file.Way.{Way}
use Rattle.kt_deltafile.specs.declared.file.Way.TheVariants.{Undo, Redo}
use Rattle.kt_deltafile.specs.Rules.{FileFits}
use Rattle.kt_content.specs.Rules.{Rules, AreRules, HistPasses, RowsetPasses, RowsetsPass}
use Rattle.kt_content.specs.Places.{Super, last_dms_of}
use Rattle.kt_content.specs.InMemory.{Name, mem_rows, rowset, Stores}
use Rattle.kt_content.specs.Recovering.{IsRecovered, Lends}
use Rattle.kt_content.specs.Recoverable.{Resident, SuperStands}
use Rattle.kt_content.specs.RunEvents.{Numbers}
use Rattle.kt_content.specs.Keeping.{with_stores}
use Rattle.kt_content.specs.Flushes.{EachTold}
use Rattle.kt_content.specs.DeltaFlushes.{with_deltas, DeltasUpTo}
use Rattle.kt_joblaws.specs.ChangesOver.{hists_of}

-- no disk rowset of this number is among these stores
abbrev pub IsOther : ℕ → Name → Type 0
IsOther r (mem_rows n) = Unit {0}
IsOther r (rowset s) = (r == s) ≡ false

abbrev pub LacksRowset : ℕ → Stores → Type 0
LacksRowset r [] = Unit {0}
LacksRowset r (x ∷ stores) = IsOther r x.0 × LacksRowset r stores

-- one of them is, and no other, and this is what it has of the key
pub record IsAlone (r : ℕ) (h : Hist) (stores : Stores) : Type 0 where
  pub front : Stores
  pub behind : Stores
  pub are : stores ≡ front ++ (rowset r, h) ∷ behind
  pub before : LacksRowset r front
  pub after : LacksRowset r behind

-- What such a job has: the new files tell what the rowset in memory tells, and no record names a DeltaMemStore of it that came since they were read
pub record RewritesRowset (rules : Rules) (old : Super) (a : ℕ) (d : DiskRowset) (records : List Entry) (stores : List ℕ → Stores) : Type 0 where
  pub there : is_some (last_dms_of d.rowset old.rowsets) ≡ true
  pub names : DeltasUpTo d.rowset d.last_dms records
  pub told : EachTold records records
  pub pass : RowsetPasses rules d
  pub tells : (q : List ℕ) → IsAlone d.rowset (hist_in_files q d) (stores q)
  pub sound : (q : List ℕ) → AreSound a (hists_of (stores q))

-- the numbers, but for those of the DeltaMemStores that take changes
abbrev pub without_deltas : Numbers → Numbers
without_deltas numbers = record numbers { deltas = [] }

-- Then its superblock stands over the same stores.
abbrev pub a_rewritten_rowset_stands : Type 0
a_rewritten_rowset_stands = (rules : Rules) (fill : Row) (old : Super) (a c need : ℕ) (d : DiskRowset) (durable : List Entry) (high : ℕ) (past : Past) (live : Resident)
    → IsLog (durable ++ []) → SuperStands rules fill old durable [] past live → live.named ≡ [] → RewritesRowset rules old a d (durable ++ []) live.stores
    → Lends old (with_deltas old a c need d) durable high 0 past → high ≤ live.last
    → IsRecovered rules fill (with_deltas old a c need d) durable [] high past
    × SuperStands rules fill (with_deltas old a c need d) durable [] past (with_stores live.stores live.names (without_deltas live.numbers) live)

-- ---- what is written passes the rules of the table

-- the keys of base rows
abbrev pub keys_under : Rows → List (List ℕ)
keys_under rows = map (λ (r : List ℕ × Row). r.0) rows

-- the records of each of these files are of so many rows
abbrev pub AreFit : Way → ℕ → List (List Delta) → Type 0
AreFit way rows files = AllByRecursion (FileFits way rows) files

-- where each history of the rowset does
abbrev pub a_rowset_of_passing_histories_passes : Type 0
a_rowset_of_passing_histories_passes = (rules : Rules) (d : DiskRowset) → AreRules rules → ((q : List ℕ) → HistPasses rules q (hist_in_files q d)) → AreRising (keys_under d.base)
    → undos_fit d ≡ true → AreFit Undo (length d.base) d.undos → AreFit Redo (length d.base) d.redos → RowsetPasses rules d

-- and so does each history of rowsets that pass
abbrev pub histories_of_passing_rowsets_pass : Type 0
histories_of_passing_rowsets_pass = (rules : Rules) → AreRules rules → (q : List ℕ) (rowsets : List DiskRowset) → RowsetsPass rules rowsets → AllByRecursion (HistPasses rules q) (map (hist_in_files q) rowsets)
