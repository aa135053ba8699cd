-- A compaction while nothing flies and every record is durable: its outputs take the place of the disk rowsets that it takes, in memory and in its superblock,
-- which stands over the stores as they are then.
use Rattle.std.specs.Prelude.{◌≡◌, ◌≤◌, ◌<◌, ◌^◌, ℕ, Bool, true, false, not, is_some, List, [], ◌∷◌, ◌++◌, map}
use Rattle.std.specs.List.{AllByRecursion, filter}
use Rattle.kt_history.specs.declared.change.Change.{Change}
use Rattle.kt_history.specs.declared.changes.Delta.{Delta}
use Rattle.kt_history.specs.Rows.{Row}
use Rattle.kt_history.specs.History.{Past}
use Rattle.kt_history.specs.Stores.{Hist, hist_in}
use Rattle.kt_records.specs.declared.entry.Entry.{Entry}
use Rattle.kt_journal.specs.Log.{IsLog}
use Rattle.kt_histlaws.specs.Fitting.{AreSound}
use Rattle.kt_histlaws.specs.Jobs.{AreAlike}
use Rattle.kt_rowfiles.specs.Files.{DiskRowset, hist_in_files}
use Rattle.kt_rowfiles.specs.declared.taking.Span.{Span}
use Rattle.kt_rowfiles.specs.Flushing.{InOrderAt}
use Rattle.kt_rowfiles.specs.Merging.{joined_history}
use Rattle.kt_baseset.specs.declared.schema.ColumnShape.{ColumnShape}
use Rattle.kt_baseset.specs.Rows.{IdsRise, AreShapes, AllFit}
use Rattle.kt_diskrowset.specs.declared.data.RowSetData.{RowSetData}
use Rattle.kt_diskrowset.specs.declared.inputs.Inputs.{Inputs}
use Rattle.kt_diskrowset.specs.Data.{store_in}
use Rattle.kt_diskrowset.specs.Files.{lists_of}
use Rattle.kt_merge.specs.Merge.{hists_upto, AreFaultless}
use Rattle.kt_merge.specs.Rewriting.{TellsInOrder}
use Rattle.kt_content.specs.Rules.{Rules, AreRules, RowsetsPass, HistPasses}
use Rattle.kt_content.specs.Places.{Super, last_dms_of}
use Rattle.kt_content.specs.Content.{NumbersDiffer}
use Rattle.kt_content.specs.InMemory.{Name, mem_rows, rowset, Stores}
use Rattle.kt_content.specs.RunEvents.{RowsetsBelow, RecordsBelow, Numbers, NumbersAreFresh}
use Rattle.kt_content.specs.Recovering.{Lends}
use Rattle.kt_content.specs.Recoverable.{Resident, SuperStands}
use Rattle.kt_content.specs.Keeping.{with_stores}
use Rattle.kt_content.specs.Flushes.{AreFrom, EachTold, before}
use Rattle.kt_joblaws.specs.Apart.{AreApart, IsOfTable, RowIs}
use Rattle.kt_joblaws.specs.ChangesOver.{hists_of, in_memory}

-- whether a store is taken, by the numbers of the rowsets that are
abbrev pub is_taken : (ℕ → Bool) → Name → Bool
is_taken take (mem_rows n) = false
is_taken take (rowset r) = take r

abbrev pub taken_in : (ℕ → Bool) → Stores → Stores
taken_in take stores = filter (λ (x : Name × Hist). is_taken take x.0) stores

abbrev pub left_in : (ℕ → Bool) → Stores → Stores
left_in take stores = filter (λ (x : Name × Hist). not (is_taken take x.0)) stores

-- the rowsets of a superblock that are left
abbrev pub left_rowsets : (ℕ → Bool) → List DiskRowset → List DiskRowset
left_rowsets take rowsets = filter (λ (d : DiskRowset). not (take d.rowset)) rowsets

-- its superblock: the outputs stand behind the rowsets that are left
abbrev pub compacted : (ℕ → Bool) → Super → ℕ → ℕ → ℕ → List DiskRowset → Super
compacted take old a c need outputs = record { a = a; c = c; need = need; last_mem = old.last_mem; rowsets = left_rowsets take old.rowsets ++ outputs }

-- and so they do in memory
abbrev pub after_compaction : (ℕ → Bool) → List ℕ → List DiskRowset → Stores → Stores
after_compaction take q outputs stores = left_in take stores ++ in_memory q outputs

-- a superblock names each disk rowset among these
abbrev pub AreOf : Super → Stores → Type 0
AreOf super [] = Unit {0}
AreOf super (x ∷ stores) = IsOf x.0 × AreOf super stores
  where
    IsOf : Name → Type 0
    IsOf (mem_rows n) = Unit {0}
    IsOf (rowset r) = is_some (last_dms_of r super.rowsets) ≡ true

-- What a compaction has. Its outputs are alike to the disk rowsets that it takes, of which one at most has a row or a change at each time from the mark on; and
-- no record names a rowset that came since it began
pub record CompactsOver (rules : Rules) (take : ℕ → Bool) (old : Super) (a next last_mem : ℕ) (outputs : List DiskRowset) (records : List Entry) (stores : List ℕ → Stores) (j : ℕ) : Type 0 where
  pub old_differ : NumbersDiffer old.rowsets
  pub new_differ : NumbersDiffer outputs
  pub rowsets : RowsetsBelow (before next last_mem) old.rowsets
  pub outputs_from : AreFrom next outputs
  pub names : RecordsBelow (before next last_mem) records
  pub told : EachTold records records
  pub old_pass : RowsetsPass rules old.rowsets
  pub new_pass : RowsetsPass rules outputs
  pub named : (q : List ℕ) → AreOf old (stores q)
  pub apart : (q : List ℕ) → AreApart j (hists_of (taken_in take (stores q)))
  pub alike : (q : List ℕ) → AreAlike j (hists_of (taken_in take (stores q))) (map (hist_in_files q) outputs)
  pub sound : (q : List ℕ) → AreSound a (map (hist_in_files q) outputs)

-- Then its superblock stands over the stores after it, where the one before it stood over those before it.
abbrev pub a_compaction_changes_over : Type 0
a_compaction_changes_over = (rules : Rules) (fill : Row) (take : ℕ → Bool) (old : Super) (a c need next last_mem : ℕ) (outputs : List DiskRowset) (durable : List Entry) (high j : ℕ) (past : Past) (live : Resident)
    (names : List Name) (numbers : Numbers)
    → IsLog (durable ++ []) → SuperStands rules fill old durable [] past live → live.named ≡ []
    → CompactsOver rules take old a next last_mem outputs (durable ++ []) live.stores j
    → Lends old (compacted take old a c need outputs) durable high j past → high ≤ live.last
    → NumbersAreFresh old (durable ++ []) names numbers → NumbersAreFresh (compacted take old a c need outputs) (durable ++ []) names numbers
    → SuperStands rules fill (compacted take old a c need outputs) durable [] past (with_stores (λ q. after_compaction take q outputs (live.stores q)) names numbers live)

-- ---- what it reads, and what that passes

-- what a disk rowset tells of a key is of the table, and its changes stand in the order of their times, wherever a mark is drawn
pub record TellsKey (columns : List ColumnShape) (h : Hist) : Type 0 where
  pub first : RowIs columns h.first
  pub steps : AllByRecursion (λ (c : ℕ × Change). IsOfTable columns c.1) h.steps
  pub order : (j : ℕ) → InOrderAt j h.steps

-- each of these records is of the table
abbrev pub AreRecordsOf : List ColumnShape → List Delta → Type 0
AreRecordsOf columns records = AllByRecursion (λ (d : Delta). IsOfTable columns d.change) records

abbrev pub TellsTable : List ColumnShape → RowSetData → Type 0
TellsTable columns d = (q : List ℕ) → TellsKey columns (hist_in q (store_in d))

-- Of these columns are its base rows, and the records of its files and in memory
pub record IsOfColumns (columns : List ColumnShape) (d : RowSetData) : Type 0 where
  pub rows : AllFit columns d.base.set.value.rows
  pub undos : AllByRecursion (AreRecordsOf columns) (lists_of d.undo)
  pub redos : AllByRecursion (AreRecordsOf columns) (lists_of d.redo)
  pub fresh : AreRecordsOf columns d.fresh

-- Then it tells the table, where the changes of each key stand in order
abbrev pub a_rowset_of_columns_tells : Type 0
a_rowset_of_columns_tells = (columns : List ColumnShape) (d : RowSetData) → IdsRise 0 columns → IsOfColumns columns d → TellsInOrder d → TellsTable columns d

-- And what a compaction reads of such rowsets has no fault, where they are apart
abbrev pub a_compaction_reads_no_fault : Type 0
a_compaction_reads_no_fault = (span : Span) (inputs : Inputs) → inputs.mems ≡ [] → span.bound < 2 ^ 64 → AreShapes inputs.columns → AllByRecursion (TellsTable inputs.columns) inputs.rowsets
    → ((q : List ℕ) → AreApart span.mark (hists_upto span.bound q inputs)) → AreFaultless span inputs

-- While each write has its COMMIT, what is taken has of a key passes the rules of a table, joined to one history: from a mark on that is not below the
-- superblock's, where the rowsets that are taken are apart
abbrev pub what_is_taken_passes : Type 0
what_is_taken_passes = (rules : Rules) (fill : Row) (take : ℕ → Bool) (super : Super) (durable run : List Entry) (past : Past) (live : Resident) (q : List ℕ) (a : ℕ) → AreRules rules
    → IsLog (durable ++ run) → SuperStands rules fill super durable run past live → EachTold (durable ++ run) (durable ++ run) → AreOf super (live.stores q)
    → AreApart a (hists_of (taken_in take (live.stores q))) → super.a ≤ a → HistPasses rules q (joined_history a (hists_of (taken_in take (live.stores q))))
