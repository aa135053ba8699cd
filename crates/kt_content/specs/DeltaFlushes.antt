-- The superblock that a delta flush publishes while nothing flies and every record is durable.
use Rattle.std.specs.Prelude.{◌≡◌, ◌≤◌, ◌⊎◌, ◌==◌, ℕ, Bool, true, false, not, List, [], ◌∷◌, map, if◌then◌else◌}
use Rattle.std.specs.List.{filter}
use Rattle.kt_history.specs.declared.target.Target.{Target}
use Rattle.kt_history.specs.declared.target.Target.TheVariants.{Mem, Delta}
use Rattle.kt_records.specs.declared.entry.Entry.{Entry}
use Rattle.kt_records.specs.declared.entry.Entry.TheVariants.{Replicate, Commit}
use Rattle.kt_records.specs.declared.entry.CommitRow.{CommitRow}
use Rattle.kt_histlaws.specs.Fitting.{AreSound}
use Rattle.kt_histlaws.specs.Jobs.{AreAlike}
use Rattle.kt_rowfiles.specs.Files.{DiskRowset, hist_in_files}
use Rattle.kt_content.specs.Rules.{Rules, RowsetsPass}
use Rattle.kt_content.specs.Places.{Super, Place, memory, disk}
use Rattle.kt_content.specs.Content.{NumbersDiffer}
use Rattle.kt_content.specs.InMemory.{Stores, group}
use Rattle.kt_content.specs.OneVisit.{PublishesAtRest}
use Rattle.kt_content.specs.Flushes.{EachTold}

-- the job leaves all but one rowset
abbrev pub all_but : ℕ → Place → Bool
all_but r memory = true
all_but r (disk s) = not (s == r)

-- it stands in the place of the one of its number
abbrev pub replaced : ℕ → DiskRowset → List DiskRowset → List DiskRowset
replaced r d rowsets = map (λ (x : DiskRowset). if x.rowset == r then d else x) rowsets

abbrev pub with_deltas : Super → ℕ → ℕ → ℕ → DiskRowset → Super
with_deltas old a c need d = record { a = a; c = c; need = need; last_mem = old.last_mem; rowsets = replaced d.rowset d old.rowsets }

-- no record names a DeltaMemStore of a rowset above one
abbrev pub IsUpTo : ℕ → ℕ → Target → Type 0
IsUpTo r last (Mem n) = Unit {0}
IsUpTo r last (Delta s n) = ((s == r) ≡ false) ⊎ (((s == r) ≡ true) × (n ≤ last))

abbrev pub TargetsUpTo : ℕ → ℕ → List Target → Type 0
TargetsUpTo r last [] = Unit {0}
TargetsUpTo r last (t ∷ targets) = IsUpTo r last t × TargetsUpTo r last targets

abbrev pub RowsUpTo : ℕ → ℕ → List CommitRow → Type 0
RowsUpTo r last [] = Unit {0}
RowsUpTo r last (row ∷ rows) = TargetsUpTo r last row.targets × RowsUpTo r last rows

abbrev pub DeltasUpTo : ℕ → ℕ → List Entry → Type 0
DeltasUpTo r last [] = Unit {0}
DeltasUpTo r last (Replicate ts ops ∷ records) = DeltasUpTo r last records
DeltasUpTo r last (Commit ts rows ∷ records) = RowsUpTo r last rows × DeltasUpTo r last records

-- What a delta flush has: the rowset with a REDO file more is alike to the one in memory, which stands for the same place, and no record names a DeltaMemStore of it
-- that came since.
pub record FlushesDeltas (rules : Rules) (old : Super) (a c need : ℕ) (was d : DiskRowset) (records : List Entry) (stores : List ℕ → Stores) (j : ℕ) : Type 0 where
  pub there : filter (λ (x : DiskRowset). x.rowset == d.rowset) old.rowsets ≡ was ∷ []
  pub differ : NumbersDiffer old.rowsets
  pub names : DeltasUpTo d.rowset d.last_dms records
  pub told : EachTold records records
  pub pass : RowsetsPass rules (replaced d.rowset d old.rowsets)
  pub alike : (q : List ℕ) → AreAlike j (group old (disk d.rowset) (stores q)) (hist_in_files q d ∷ [])
  pub sound : (q : List ℕ) → AreSound a (hist_in_files q d ∷ [])
  pub later : j ≤ a
  -- the stores in memory stand for the same places
  pub same : (q : List ℕ) (p : Place) → group (with_deltas old a c need d) p (stores q) ≡ group old p (stores q)

abbrev pub a_delta_flush_publishes_at_rest : Type 0
a_delta_flush_publishes_at_rest = (rules : Rules) (old : Super) (a c need : ℕ) (was d : DiskRowset) (records : List Entry) (stores : List ℕ → Stores) (j : ℕ)
    → FlushesDeltas rules old a c need was d records stores j
    → PublishesAtRest rules (all_but d.rowset) old (with_deltas old a c need d) records stores j
