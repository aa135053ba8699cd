-- What opening gives: the parts of an engine, and what they are of what both devices hold.
use Rattle.std.specs.Prelude.{◌≡◌, ◌⊎◌, ◌+◌, ◌≤◌, ◌++◌, ℕ, List, [], ◌∷◌, map, max, length, unwrap_or, Ok}
use Rattle.std.specs.List.{AllByRecursion}
use Rattle.std.specs.Ordering.{nat_cmp}
use Rattle.std.specs.BTreeMap.{get}
use Rattle.kt_base.specs.Causes.{Rose}
use Rattle.kt_history.specs.History.{Past}
use Rattle.kt_history.specs.Stores.{Store}
use Rattle.kt_histlaws.specs.Histories.{past_hist}
use Rattle.kt_records.specs.declared.entry.Entry.{Entry}
use Rattle.kt_records.specs.Rules.{TargetFits}
use Rattle.kt_journal.specs.Log.{IsLog}
use Rattle.kt_loglaws.specs.Replay.{last_of}
use Rattle.kt_schema.specs.declared.column.Column.{Column}
use Rattle.kt_schema.specs.Columns.{fill_of}
use Rattle.kt_super.specs.declared.meta.Meta.{Meta}
use Rattle.kt_pool.specs.Contents.{free}
use Rattle.kt_stores.specs.Shelf.{StoresView, names_of}
use Rattle.kt_tablet.specs.Filling.{told_stores}
use Rattle.kt_content.specs.Places.{Super, Place}
use Rattle.kt_content.specs.Opening.{Placed, held_of}
use Rattle.kt_content.specs.Content.{Shown}
use Rattle.kt_history.specs.declared.target.Target.{Target}
use Rattle.kt_history.specs.declared.target.Target.TheVariants.{Delta}
use Rattle.kt_pool.specs.Contents.{Contents}
use Rattle.kt_super.specs.declared.meta.MetaRowset.{MetaRowset}
use Rattle.kt_rowfiles.specs.Fitting.{readable}
use Rattle.kt_diskrowset.specs.declared.data.RowSetData.{RowSetData}
use Rattle.kt_diskrowset.specs.declared.rowset.DiskRowSet.{DiskRowSet}
use Rattle.kt_diskrowset.specs.Data.{files_in, held_in}
use Rattle.kt_diskrowset.specs.Held.{IsReadOf}
use Rattle.kt_diskrowset.specs.Joining.{KeyUnder}
use Rattle.kt_diskrowset.specs.Rows.{store_with}
use Rattle.kt_diskrowset.specs.Rowset.{HeldFiles, store_of, IsStore, Owns, cells_had}
use Rattle.kt_diskrowset.specs.Rowset as rowset
use Rattle.kt_reopen.specs.declared.numbers.Named.{Named}
use Rattle.kt_reopen.specs.declared.why.Why.{Why}
use Rattle.kt_reopen.specs.declared.why.Why.TheVariants as why
use Rattle.kt_reopen.specs.Bare.{bare, places_under, PlacesApart}
use Rattle.kt_reopen.specs.Naming.{NameTheSame}
use Rattle.kt_reopen.specs.Both.{Found, first_stores, stores_after}
use Rattle.kt_reopen.specs.Needed.{needs_of}
use Rattle.kt_reopen.specs.Numbers.{name_of, next_rowset, greatest_dms, IsNamed}
use Rattle.kt_reopen.specs.Owed.{owed, AllHaveCommits}

-- the first superblock of a table of these columns
abbrev pub first_meta : List Column → Meta
first_meta columns = record { number = 1; a = 0; c = 0; need = 0; last_mem = 0; next_rowset = 1; next_file = 3; next_column = length columns + 1; schema = columns; rowsets = [] }

-- what is found where a superblock and a log make these stores
abbrev pub found_of : Super → List Entry → Placed → Found
found_of super records stores = record { super = super; records = records; last = max super.c (last_of records); stores = stores }

-- A superblock says what a found one does
pub record IsSuper (m : Meta) (super : Super) : Type 0 where
  pub a : m.a ≡ super.a
  pub c : m.c ≡ super.c
  pub need : m.need ≡ super.need
  pub names : NameTheSame (bare m) super

-- The parts are those of what was found. Each store has its number, and what its place has; a COMMIT is queued for each write without one, and the log
-- goes on with them
pub record IsOpened (columns : List Column) (f : Found) (m : Meta) (records queued : List Entry) (stores : StoresView) (last next : ℕ) : Type 0 where
  pub super : IsSuper m f.super
  pub records_are : records ≡ f.records
  pub last_is : last ≡ f.last
  pub behind : last_of f.records ≤ f.last
  pub since : m.c ≤ last
  pub made : stores_after (fill_of columns) f.super f.records ≡ Ok f.stores
  pub places : map (λ (s : Place × Store). s.0) f.stores ≡ places_under f.super
  pub holds : map (λ (s : Place × Store). s.1) f.stores ≡ told_stores (fill_of columns) stores
  pub names : names_of stores.shelf ≡ map (name_of f.super f.records) (places_under f.super)
  pub fit : AllByRecursion (λ (s : Place × Store). TargetFits (name_of f.super f.records s.0)) (first_stores f.super)
  pub apart : PlacesApart (places_under f.super)
  pub frozen : stores.frozen ≡ 0
  pub next_is : next ≡ next_rowset m.next_rowset f.records
  pub owes : queued ≡ owed (fill_of columns) f.super (name_of f.super f.records) f.records (first_stores f.super) f.records
  pub log : IsLog (records ++ queued)
  pub told : AllHaveCommits (records ++ queued)
  pub ends : last_of (records ++ queued) ≡ last_of records

-- So many cells are free beside those of the rows, and none is promised
pub record HasRoom (cells : ℕ) (f : Found) (stores : StoresView) : Type 0 where
  pub size : length stores.pool.places ≡ cells + needs_of f.super f.records f.records
  pub unpromised : stores.pool.reserved ≡ 0
  pub enough : cells ≤ free stores.pool

-- what is found shows this past from the mark of its superblock on, key by key
pub record Shows (f : Found) (c : ℕ) (past : Past) : Type 0 where
  pub last : c ≡ f.last
  pub mark : past.mark ≡ f.super.a
  pub keys : (q : List ℕ) → Shown f.super.a (held_of q f.stores) (past_hist q past)

-- B1 to B6: neither a fault of a device nor want of memory
abbrev pub IsRefusal : Why → Type 0
IsRefusal why.Fault = ⊥
IsRefusal why.Memory = ⊥
IsRefusal _ = Unit {0}

-- the count of one of both devices rose
abbrev pub OneRose : ℕ → ℕ → ℕ → ℕ → Type 0
OneRose log log' store store' = Rose log log' ⊎ Rose store store'

-- ---- the disk rowsets, before the log is replayed

-- the greatest numbers that COMMITs name are those of these stores
abbrev pub IsNamedBy : Named → List Target → Type 0
IsNamedBy named targets = IsNamed named.mem named.next (λ r. unwrap_or (get nat_cmp named.dms r) 0) targets

-- A rowset that was read, opened under its number in a superblock: it has what can be read of its files, and no change in memory
pub record IsRowsetOf (targets : List Target) (r : MetaRowset) (d : RowSetData) (s : DiskRowSet) : Type 0 where
  pub number : (rowset.held_of s).number ≡ r.rowset
  pub held : IsReadOf (held_in d) (rowset.held_of s)
  pub name : rowset.name_of s ≡ Delta r.rowset (max (r.last_dms + 1) (greatest_dms r.rowset targets))
  pub store : (pool : Contents) → store_of s pool ≡ store_with (readable (files_in d)) (λ n. [])
  pub stands : (pool : Contents) → IsStore s pool
  pub bare : (pool : Contents) (k : ℕ) → ¬ Owns s pool k
  pub none : (pool : Contents) → cells_had s pool ≡ 0
  pub fresh : (ts : ℕ) (q : List ℕ) (pool : Contents) → KeyUnder ts q s pool

abbrev pub AreRowsetsOf : List Target → List MetaRowset → List RowSetData → List DiskRowSet → Type 0
AreRowsetsOf targets [] [] [] = Unit {0}
AreRowsetsOf targets (r ∷ rs) (d ∷ ds) (s ∷ ss) = IsRowsetOf targets r d s × AreRowsetsOf targets rs ds ss
AreRowsetsOf targets _ _ _ = ⊥

-- in memory is what can be read of each of these files
abbrev pub AreReadOf : List HeldFiles → List HeldFiles → Type 0
AreReadOf [] [] = Unit {0}
AreReadOf [] (x ∷ files) = ⊥
AreReadOf (h ∷ held) [] = ⊥
AreReadOf (h ∷ held) (x ∷ files) = IsReadOf h x × AreReadOf held files
