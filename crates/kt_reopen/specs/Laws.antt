-- What the definitions keep to.
use Rattle.std.specs.Prelude.{◌≡◌, ◌<◌, ◌^◌, ◌-◌, ℕ, List, [], ◌∷◌, ◌++◌, map, Ok}
use Rattle.std.specs.List.{AllByRecursion}
use Rattle.kt_disk.specs.Disk.{Files}
use Rattle.kt_history.specs.declared.target.Target.{Target}
use Rattle.kt_history.specs.declared.target.Target.TheVariants.{Mem, Delta}
use Rattle.kt_history.specs.Rows.{Row}
use Rattle.kt_history.specs.History.{Past}
use Rattle.kt_history.specs.Stores.{Store}
use Rattle.kt_records.specs.declared.entry.Entry.{Entry}
use Rattle.kt_records.specs.Rules.{TargetFits}
use Rattle.kt_histlaws.specs.Histories.{past_hist}
use Rattle.kt_journal.specs.Log.{IsLog}
use Rattle.kt_loglaws.specs.Replay.{last_of}
use Rattle.kt_schema.specs.declared.column.Column.{Column}
use Rattle.kt_rowfiles.specs.Files.{DiskRowset}
use Rattle.kt_content.specs.Places.{Super, Place, memory, at_first}
use Rattle.kt_content.specs.Rules.{Rules, RowsetsPass}
use Rattle.kt_content.specs.Opening.{Placed, held_of, opened}
use Rattle.kt_content.specs.Content.{IsContent, Shown}
use Rattle.kt_content.specs.Records.{AllTold}
use Rattle.kt_content.specs.InMemory.{Name, mem_rows, rowset}
use Rattle.kt_content.specs.RunEvents.{NumbersAreFresh}
use Rattle.kt_reopen.specs.Naming.{NameTheSame}
use Rattle.kt_reopen.specs.Both.{Found, Answers, first_stores, stores_after}
use Rattle.kt_reopen.specs.Holding.{HoldBoth}
use Rattle.kt_reopen.specs.Numbers.{named_by, mem_number, name_of, numbers_of}
use Rattle.kt_reopen.specs.Opened.{Shows}
use Rattle.kt_reopen.specs.Owed.{owed, AllHaveCommits}

-- no rowset that is named has the last number of its type
abbrev pub EachBelow : ℕ → List Target → Type 0
EachBelow most [] = Unit {0}
EachBelow most (Mem n ∷ targets) = EachBelow most targets
EachBelow most (Delta r n ∷ targets) = (r < most) × EachBelow most targets

-- rowsets have numbers below one
abbrev pub AllBelowNext : ℕ → List DiskRowset → Type 0
AllBelowNext next [] = Unit {0}
AllBelowNext next (d ∷ rowsets) = (d.rowset < next) × AllBelowNext next rowsets

-- where the UNDO records of the rowsets fit, the stores begin with what the content of each key begins with
abbrev pub files_are_the_first_stores : Type 0
files_are_the_first_stores = (rules : Rules) (super : Super) (q : List ℕ) → RowsetsPass rules super.rowsets → held_of q (first_stores super) ≡ at_first q super

-- what superblocks are to a log are the names of their rowsets
abbrev pub superblocks_that_name_the_same_open_the_same : Type 0
superblocks_that_name_the_same_open_the_same = (one other : Super) (fill : Row) (all : List Entry) (stores : Placed) (records : List Entry) → NameTheSame one other
    → opened fill one all stores records ≡ opened fill other all stores records

-- a superblock and a log that hold a past make stores, which show it key by key
abbrev pub a_content_is_opened : Type 0
a_content_is_opened = (rules : Rules) (fill : Row) (super : Super) (records : List Entry) (c : ℕ) (past : Past) → IsLog records → IsContent rules fill super records c past
    → (stores : Placed) × (stores_after fill super records ≡ Ok stores) × ((q : List ℕ) → Shown super.a (held_of q stores) (past_hist q past))

-- so where both images hold a past, opening them finds something that shows it
abbrev pub what_both_hold_is_found : Type 0
what_both_hold_is_found = (rules : Rules) (columns : List Column) (log store : Files) (c : ℕ) (past : Past) (f : Found) → IsLog f.records → HoldBoth rules columns log store c past → Answers columns log store (Ok f) → Shows f c past

-- The COMMITs that a log owes tell what became of their writes, in each content of it
abbrev pub owed_commits_are_told : Type 0
owed_commits_are_told = (rules : Rules) (fill : Row) (super : Super) (records : List Entry) (c low : ℕ) (past : Past) → IsLog (records ++ owed fill super (name_of super records) records (first_stores super) records)
    → IsContent rules fill super records c past → AllTold fill super low records (owed fill super (name_of super records) records (first_stores super) records)

-- The log goes on with them, and each write has its COMMIT then. The numbers of the stores have a spelling
abbrev pub a_log_goes_on_with_what_it_owes : Type 0
a_log_goes_on_with_what_it_owes = (fill : Row) (super : Super) (name : Place → Target) (records : List Entry) (stores final : Placed) → IsLog records → TargetFits (name memory) → AllByRecursion (λ (s : Place × Store). TargetFits (name s.0)) stores
    → opened fill super records stores records ≡ Ok final
    → IsLog (records ++ owed fill super name records stores records) × AllHaveCommits (records ++ owed fill super name records stores records)
    × (last_of (records ++ owed fill super name records stores records) ≡ last_of records)

-- the stores in memory of an opened tablet
abbrev pub opened_names : Super → List Entry → List Name
opened_names super records = mem_rows (mem_number super.last_mem records) ∷ map (λ (d : DiskRowset). rowset d.rowset) super.rowsets

-- their numbers are fresh, where those of the superblock lie below its next one
abbrev pub opened_numbers_are_fresh : Type 0
opened_numbers_are_fresh = (super : Super) (records : List Entry) (next : ℕ) → EachBelow (2 ^ 64 - 1) (named_by records) → AllBelowNext next super.rowsets
    → NumbersAreFresh super records (opened_names super records) (numbers_of next super records)
