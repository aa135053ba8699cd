-- A flush while nothing flies and every record is durable: its outputs take the place of the frozen MemRowSets in memory, and its superblock stands over the
-- stores as they are then.
use Rattle.std.specs.Prelude.{◌≡◌, ◌≤◌, ◌<◌, ℕ, List, [], ◌∷◌, ◌++◌, map}
use Rattle.kt_history.specs.Rows.{Row}
use Rattle.kt_history.specs.History.{Past}
use Rattle.kt_history.specs.Stores.{Hist, never}
use Rattle.kt_records.specs.declared.entry.Entry.{Entry}
use Rattle.kt_journal.specs.Log.{IsLog}
use Rattle.kt_histlaws.specs.Fitting.{AreSound}
use Rattle.kt_histlaws.specs.Jobs.{AreAlike}
use Rattle.kt_rowfiles.specs.Files.{DiskRowset, hist_in_files}
use Rattle.kt_content.specs.Rules.{Rules, RowsetsPass}
use Rattle.kt_content.specs.Places.{Super}
use Rattle.kt_content.specs.Content.{NumbersDiffer}
use Rattle.kt_content.specs.InMemory.{Name, mem_rows, rowset, Stores}
use Rattle.kt_content.specs.RunEvents.{RowsetsBelow, RecordsBelow, Numbers, NumbersAreFresh}
use Rattle.kt_content.specs.Recovering.{Lends}
use Rattle.kt_content.specs.Recoverable.{Resident, SuperStands}
use Rattle.kt_content.specs.Keeping.{with_stores}
use Rattle.kt_content.specs.Flushes.{flushed, AreFrom, EachTold, before}

-- what stores have of a key, without their names
abbrev pub hists_of : Stores → List Hist
hists_of stores = map (λ (x : Name × Hist). x.1) stores

-- MemRowSets that no superblock holds before the flush, and that its own one holds
abbrev pub AreFrozen : ℕ → ℕ → Stores → Type 0
AreFrozen low last [] = Unit {0}
AreFrozen low last (x ∷ stores) = IsFrozen x.0 × AreFrozen low last stores
  where
    IsFrozen : Name → Type 0
    IsFrozen (mem_rows n) = (low < n) × (n ≤ last)
    IsFrozen (rowset r) = ⊥

-- disk rowsets of numbers below the outputs'
abbrev pub AreOlder : ℕ → Stores → Type 0
AreOlder next [] = Unit {0}
AreOlder next (x ∷ stores) = IsOlder x.0 × AreOlder next stores
  where
    IsOlder : Name → Type 0
    IsOlder (mem_rows n) = ⊥
    IsOlder (rowset r) = r < next

-- the outputs in memory, without a change
abbrev pub in_memory : List ℕ → List DiskRowset → Stores
in_memory q outputs = map (λ (d : DiskRowset). (rowset d.rowset, hist_in_files q d)) outputs

-- the stores before a flush changes over, and after it: first the MemRowSet that takes inserts, which has nothing; in the end the outputs stand behind the others
abbrev pub before_flush : ℕ → Stores → Stores → Stores
before_flush active frozen others = (mem_rows active, never) ∷ frozen ++ others

abbrev pub after_flush : ℕ → List ℕ → List DiskRowset → Stores → Stores
after_flush active q outputs others = (mem_rows active, never) ∷ others ++ in_memory q outputs

-- What a flush has. Its outputs are alike to the frozen MemRowSets, and no record names a MemRowSet or a rowset that came since it began
pub record FlushesOver (rules : Rules) (old : Super) (a last_mem next active : ℕ) (outputs : List DiskRowset) (records : List Entry) (frozen others : List ℕ → Stores) (j : ℕ) : Type 0 where
  pub old_differ : NumbersDiffer old.rowsets
  pub new_differ : NumbersDiffer outputs
  pub rowsets : RowsetsBelow (before next last_mem) old.rowsets
  pub outputs_from : AreFrom next outputs
  pub names : RecordsBelow (before next last_mem) records
  pub told : EachTold records records
  pub old_pass : RowsetsPass rules old.rowsets
  pub new_pass : RowsetsPass rules outputs
  pub taken : (q : List ℕ) → AreFrozen old.last_mem last_mem (frozen q)
  pub left : (q : List ℕ) → AreOlder next (others q)
  pub later : (old.last_mem < active) × (last_mem < active)
  pub alike : (q : List ℕ) → AreAlike j (hists_of (frozen q)) (map (hist_in_files q) outputs)
  pub sound : (q : List ℕ) → AreSound a (map (hist_in_files q) outputs)

-- Then its superblock stands over the stores after it, where the one before it stood over those before it.
abbrev pub a_flush_changes_over : Type 0
a_flush_changes_over = (rules : Rules) (fill : Row) (old : Super) (a c need last_mem next active : ℕ) (outputs : List DiskRowset) (durable : List Entry) (high j : ℕ) (past : Past) (live : Resident)
    (frozen others : List ℕ → Stores) (names : List Name) (numbers : Numbers)
    → IsLog (durable ++ []) → SuperStands rules fill old durable [] past live → live.named ≡ [] → ((q : List ℕ) → live.stores q ≡ before_flush active (frozen q) (others q))
    → FlushesOver rules old a last_mem next active outputs (durable ++ []) frozen others j
    → Lends old (flushed old a c need last_mem outputs) durable high j past → high ≤ live.last
    → NumbersAreFresh old (durable ++ []) names numbers → NumbersAreFresh (flushed old a c need last_mem outputs) (durable ++ []) names numbers
    → SuperStands rules fill (flushed old a c need last_mem outputs) durable [] past (with_stores (λ q. after_flush active q outputs (others q)) names numbers live)
