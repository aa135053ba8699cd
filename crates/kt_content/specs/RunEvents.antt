-- What an engine keeps of its log, its flying writes and its numbers, so that each event keeps it recoverable.
use Rattle.std.specs.Prelude.{◌≡◌, ◌<◌, ◌≤◌, ℕ, not, true, false, List, [], ◌∷◌, ◌++◌, Some, None, ◌⊎◌}
use Rattle.std.specs.List.{filter}
use Rattle.kt_history.specs.declared.operation.RowOp.{RowOp}
use Rattle.kt_history.specs.declared.target.Target.{Target}
use Rattle.kt_history.specs.declared.target.Target.TheVariants.{Mem, Delta}
use Rattle.kt_history.specs.Rows.{Row}
use Rattle.kt_history.specs.History.{Past, IsPastUpTo}
use Rattle.kt_records.specs.declared.entry.Entry.{Entry}
use Rattle.kt_records.specs.declared.entry.Entry.TheVariants.{Replicate, Commit}
use Rattle.kt_records.specs.declared.entry.CommitRow.{CommitRow}
use Rattle.kt_histlaws.specs.Pending.{Aloft, is_pending}
use Rattle.kt_journal.specs.Log.{IsLog}
use Rattle.kt_loglaws.specs.Fronts.{ops_of}
use Rattle.kt_rowfiles.specs.Files.{DiskRowset}
use Rattle.kt_content.specs.Places.{Super, memory, needs, last_dms_of}
use Rattle.kt_content.specs.KeyOps.{KeyOp, op_on, seen}
use Rattle.kt_content.specs.Content.{IsContent}
use Rattle.kt_content.specs.Agreement.{OpsRise}
use Rattle.kt_content.specs.MoreOps.{untold}
use Rattle.kt_content.specs.Records.{RowsTell, IsTold, AllTold, TellsIn}
use Rattle.kt_content.specs.Recovering.{AllTrue}
use Rattle.kt_content.specs.InMemory.{Name, mem_rows, rowset, stands_for}
use Rattle.kt_content.specs.Rules.{Rules}

-- what a key sees of the log, without what a flying write has still to apply
abbrev pub seen_done : List Aloft → List ℕ → List Entry → List KeyOp
seen_done aloft q records = filter (λ (x : KeyOp). not (is_pending aloft q x.ts)) (seen q records records)

-- a write that begins is pending: its operation is left out, and the others are as before
abbrev pub a_write_that_begins_is_not_done : Type 0
a_write_that_begins_is_not_done = (aloft later : List Aloft) (q : List ℕ) (records : List Entry) (ts : ℕ) (ops : List RowOp)
    → IsLog (records ++ Replicate ts ops ∷ [])
    → ((t : ℕ) → (t < ts) ⊎ (op_on q ts ops None ≡ []) → is_pending later q t ≡ is_pending aloft q t)
    → ((op : RowOp) → op_on q ts ops None ≡ untold ts op ∷ [] → is_pending later q ts ≡ true)
    → seen_done later q (records ++ Replicate ts ops ∷ []) ≡ seen_done aloft q records

-- a row that is applied is done: its operation, the last of its key, comes behind those that were
abbrev pub a_row_that_is_applied_is_done : Type 0
a_row_that_is_applied_is_done = (aloft later : List Aloft) (q : List ℕ) (records : List Entry) (front : List KeyOp) (ts : ℕ) (op : RowOp)
    → seen q records records ≡ front ++ untold ts op ∷ [] → OpsRise 0 (seen q records records)
    → ((t : ℕ) → t < ts → is_pending later q t ≡ is_pending aloft q t) → is_pending aloft q ts ≡ true → is_pending later q ts ≡ false
    → seen_done later q records ≡ seen_done aloft q records ++ untold ts op ∷ []

-- a flying write: its rows that are applied, and what its COMMIT is going to say of them
pub record Named : Type 0 where
  pub ts : ℕ
  pub ops : List RowOp
  pub rows : List CommitRow

-- what is known of the flying writes is true under this superblock, in the content of all records
abbrev pub NamesAreTrue : Row → Super → List Entry → List Named → Type 0
NamesAreTrue fill super records [] = Unit {0}
NamesAreTrue fill super records (n ∷ named) = RowsTell fill super records n.ts n.ops n.rows × NamesAreTrue fill super records named

abbrev pub AllBelow : ℕ → List Named → Type 0
AllBelow ts [] = Unit {0}
AllBelow ts (n ∷ named) = (n.ts ≤ ts) × AllBelow ts named

-- a later write leaves it true
abbrev pub names_stay_true_at_a_begin : Type 0
names_stay_true_at_a_begin = (rules : Rules) (fill : Row) (super : Super) (records : List Entry) (c : ℕ) (past : Past) (ts : ℕ) (ops : List RowOp) (named : List Named)
    → IsLog (records ++ Replicate ts ops ∷ []) → IsContent rules fill super records c past → AllBelow ts named → NamesAreTrue fill super records named
    → NamesAreTrue fill super (records ++ Replicate ts ops ∷ []) named

-- and so does a COMMIT
abbrev pub names_stay_true_at_an_end : Type 0
names_stay_true_at_an_end = (rules : Rules) (fill : Row) (super : Super) (records : List Entry) (c : ℕ) (past : Past) (ts : ℕ) (rows : List CommitRow) (named : List Named)
    → IsLog (records ++ Commit ts rows ∷ []) → IsContent rules fill super records c past → IsTold fill super records ts rows → NamesAreTrue fill super records named
    → NamesAreTrue fill super (records ++ Commit ts rows ∷ []) named

-- one row more is applied
abbrev pub a_name_more_is_true : Type 0
a_name_more_is_true = (fill : Row) (super : Super) (records : List Entry) (ts : ℕ) (ops : List RowOp) (rows : List CommitRow) (op : RowOp) (row : CommitRow)
    → RowsTell fill super records ts ops rows
    → TellsIn fill super records ts op row.targets
    → RowsTell fill super records ts (ops ++ op ∷ []) (rows ++ row ∷ [])

-- where all rows of a write are applied, its COMMIT is told
abbrev pub true_names_are_told : Type 0
true_names_are_told = (fill : Row) (super : Super) (records : List Entry) (n : Named) (named : List Named) → NamesAreTrue fill super records (n ∷ named)
    → ops_of n.ts records ≡ Some n.ops → IsTold fill super records n.ts n.rows

-- what is told of a run is true in the content of all records
abbrev pub what_is_told_is_true : Type 0
what_is_told_is_true = (rules : Rules) (fill : Row) (super : Super) (base run : List Entry) (c low : ℕ) (past : Past) → IsLog (base ++ run) → IsContent rules fill super base c past
    → IsPastUpTo low past → AllTold fill super low base run
    → AllTrue fill super (base ++ run) low base run

-- the numbers of the stores that take changes: the MemRowSet, and of each rowset its DeltaMemStore; and the next rowset number
pub record Numbers : Type 0 where
  pub next : ℕ
  pub active : ℕ
  pub deltas : List (ℕ × ℕ)

abbrev pub IsBelow : Numbers → Target → Type 0
IsBelow numbers (Mem n) = n ≤ numbers.active
IsBelow numbers (Delta r n) = r < numbers.next

abbrev pub TargetsBelow : Numbers → List Target → Type 0
TargetsBelow numbers [] = Unit {0}
TargetsBelow numbers (t ∷ targets) = IsBelow numbers t × TargetsBelow numbers targets

abbrev pub RowsBelow : Numbers → List CommitRow → Type 0
RowsBelow numbers [] = Unit {0}
RowsBelow numbers (row ∷ rows) = TargetsBelow numbers row.targets × RowsBelow numbers rows

abbrev pub RecordsBelow : Numbers → List Entry → Type 0
RecordsBelow numbers [] = Unit {0}
RecordsBelow numbers (Replicate ts ops ∷ records) = RecordsBelow numbers records
RecordsBelow numbers (Commit ts rows ∷ records) = RowsBelow numbers rows × RecordsBelow numbers records

abbrev pub StoresBelow : Numbers → List Name → Type 0
StoresBelow numbers [] = Unit {0}
StoresBelow numbers (mem_rows n ∷ names) = (n ≤ numbers.active) × StoresBelow numbers names
StoresBelow numbers (rowset r ∷ names) = (r < numbers.next) × StoresBelow numbers names

abbrev pub RowsetsBelow : Numbers → List DiskRowset → Type 0
RowsetsBelow numbers [] = Unit {0}
RowsetsBelow numbers (d ∷ rowsets) = (d.rowset < numbers.next) × RowsetsBelow numbers rowsets

abbrev pub DeltasAbove : List DiskRowset → List (ℕ × ℕ) → Type 0
DeltasAbove rowsets [] = Unit {0}
DeltasAbove rowsets (d ∷ deltas) = ((last : ℕ) → last_dms_of d.0 rowsets ≡ Some last → last < d.1) × DeltasAbove rowsets deltas

-- Under a superblock: no number that it, a record or a store has is given again, and what takes changes now lies above what is durable
pub record NumbersAreFresh (super : Super) (records : List Entry) (names : List Name) (numbers : Numbers) : Type 0 where
  pub rowsets : RowsetsBelow numbers super.rowsets
  pub records_below : RecordsBelow numbers records
  pub stores : StoresBelow numbers names
  pub mem : super.last_mem < numbers.active
  pub deltas : DeltasAbove super.rowsets numbers.deltas

abbrev pub Has : ℕ × ℕ → List (ℕ × ℕ) → Type 0
Has d [] = ⊥
Has d (x ∷ deltas) = (d ≡ x) ⊎ Has d deltas

-- so the name of a store that takes changes now makes just the place needed for which that store stands
abbrev pub a_fresh_number_is_needed_where_it_stands : Type 0
a_fresh_number_is_needed_where_it_stands = (super : Super) (records : List Entry) (names : List Name) (numbers : Numbers)
    → NumbersAreFresh super records names numbers
    → (needs super (Mem numbers.active) ≡ stands_for super (mem_rows numbers.active)) × (stands_for super (mem_rows numbers.active) ≡ Some memory)
    × ((r n : ℕ) → Has (r, n) numbers.deltas → needs super (Delta r n) ≡ stands_for super (rowset r))
    -- and a rowset number that is given next stands for no place yet
    × ((r : ℕ) → numbers.next ≤ r → stands_for super (rowset r) ≡ None)
