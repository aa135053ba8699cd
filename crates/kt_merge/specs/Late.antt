-- An output of a job with the changes that the job's inputs took in memory since they were read, above its bound.
use Rattle.std.specs.Prelude.{◌≡◌, ◌&&◌, ℕ, nat_lt, List, [], ◌∷◌, length, map, Option, Some, None, if◌then◌else◌}
use Rattle.std.specs.List.{AllByRecursion, flat_map}
use Rattle.kt_history.specs.declared.changes.Delta.{Delta}
use Rattle.kt_history.specs.declared.changes.KeyChange.{KeyChange}
use Rattle.kt_history.specs.Rows.{Row, Rows}
use Rattle.kt_history.specs.Stores.{Steps, Hist, hist_in}
use Rattle.kt_history.specs.Views.{AreRising}
use Rattle.kt_histlaws.specs.Fitting.{steps_above}
use Rattle.kt_histlaws.specs.Flights.{UpTo}
use Rattle.kt_histlaws.specs.Jobs.{push_all}
use Rattle.kt_baseset.specs.declared.rows.KeyedRow.{KeyedRow}
use Rattle.kt_baseset.specs.Rows.{keys_in}
use Rattle.kt_baseset.specs.Tables.{key_at}
use Rattle.kt_rowfiles.specs.Files.{DiskRowset, row_under, records_for, rising, hist_in_files}
use Rattle.kt_rowfiles.specs.Merging.{all_above}
use Rattle.kt_diskrowset.specs.declared.data.RowSetData.{RowSetData}
use Rattle.kt_diskrowset.specs.Data.{files_in, store_in}
use Rattle.kt_diskrowset.specs.Rows.{rows_of}
use Rattle.kt_merge.specs.Changes.{hist_in_changes}

-- ---- by histories

-- all that several stores have of a key above a bound
abbrev pub late_of : ℕ → List Hist → Steps
late_of bound hs = rising (all_above bound hs)

-- changes come behind a history, where the key is there
abbrev pub push_there : Steps → Option (ℕ × Row) → Hist → Hist
push_there late None h = h
push_there late (Some found) h = push_all late h

-- a disk rowset with them behind what it has of the key, if it has the key
abbrev pub hist_with : List ℕ → Steps → DiskRowset → Hist
hist_with q late d = push_there late (row_under q 0 d.base) (hist_in_files q d)

-- ---- by disk rowsets as plain data

-- the changes in memory above a bound of a row, if it is there, and of a key
abbrev pub fresh_at : ℕ → RowSetData → Option (ℕ × Row) → Steps
fresh_at bound d None = []
fresh_at bound d (Some found) = steps_above bound (records_for found.0 d.fresh)

abbrev pub fresh_above : ℕ → List ℕ → RowSetData → Steps
fresh_above bound q d = fresh_at bound d (row_under q 0 (rows_of d.base.set.value.rows))

-- and of several
abbrev pub fresh_in_all : ℕ → List ℕ → List RowSetData → Steps
fresh_in_all bound q inputs = flat_map (fresh_above bound q) inputs

abbrev pub late_in : ℕ → List ℕ → List RowSetData → Steps
late_in bound q inputs = rising (fresh_in_all bound q inputs)

-- a disk rowset tells what another's files tell, with the changes of its own rows that the inputs have in memory above a bound
abbrev pub TellsLate : ℕ → List RowSetData → RowSetData → RowSetData → Type 0
TellsLate bound inputs output d = (q : List ℕ) → hist_in_files q (files_in d) ≡ hist_with q (late_in bound q inputs) (files_in output)

-- and several, each in its place
abbrev pub AllTellLate : ℕ → List RowSetData → List RowSetData → List RowSetData → Type 0
AllTellLate bound inputs [] [] = Unit {0}
AllTellLate bound inputs [] (d ∷ ds) = ⊥
AllTellLate bound inputs (o ∷ os) [] = ⊥
AllTellLate bound inputs (o ∷ os) (d ∷ ds) = TellsLate bound inputs o d × AllTellLate bound inputs os ds

-- or with those that lists of changes have above a bound
abbrev pub TellsChanges : ℕ → List (List KeyChange) → RowSetData → RowSetData → Type 0
TellsChanges bound lists output d = (q : List ℕ) → hist_in_files q (files_in d) ≡ hist_with q (late_of bound (map (hist_in_changes q) lists)) (files_in output)

-- and several, each in its place
abbrev pub AllTellChanges : ℕ → List (List KeyChange) → List RowSetData → List RowSetData → Type 0
AllTellChanges bound lists [] [] = Unit {0}
AllTellChanges bound lists [] (d ∷ ds) = ⊥
AllTellChanges bound lists (o ∷ os) [] = ⊥
AllTellChanges bound lists (o ∷ os) (d ∷ ds) = TellsChanges bound lists o d × AllTellChanges bound lists os ds

-- a change as a record at the place that its key has among rows, if it is one of theirs
abbrev pub placed_at : KeyChange → Option (ℕ × Row) → List Delta
placed_at c None = []
placed_at c (Some found) = record { ordinal = found.0; ts = c.ts; change = c.change } ∷ []

-- and only if it lies above a bound
abbrev pub placed_of : ℕ → Rows → KeyChange → List Delta
placed_of bound rows c = if nat_lt bound c.ts then placed_at c (row_under c.key 0 rows) else []

-- a record at the place that its key has among other rows, if it is one of theirs
abbrev pub moved_at : Delta → Option (ℕ × Row) → List Delta
moved_at d None = []
moved_at d (Some found) = record d { ordinal = found.0 } ∷ []

-- a record above a bound of one of these rows, moved to others
abbrev pub moved_of : ℕ → List KeyedRow → Rows → Delta → List Delta
moved_of bound rows others d = if nat_lt bound d.ts && nat_lt d.ordinal (length rows) then moved_at d (row_under (key_at rows d.ordinal) 0 others) else []

-- So moved, the changes of an input in memory are, row by row, those of the same key.
abbrev pub moved_records_are_of_their_keys : Type 0
moved_records_are_of_their_keys = (bound : ℕ) (d : RowSetData) (others : List KeyedRow) (q : List ℕ) (found : ℕ × Row) → AreRising (keys_in d.base.set.value.rows) → AreRising (keys_in others)
    → row_under q 0 (rows_of others) ≡ Some found → records_for found.0 (flat_map (moved_of bound d.base.set.value.rows (rows_of others)) d.fresh) ≡ fresh_above bound q d

-- what the files have of a key lies up to a bound
abbrev pub HasNoneAbove : ℕ → RowSetData → Type 0
HasNoneAbove bound d = (q : List ℕ) → UpTo bound (hist_in_files q (files_in d)).steps

-- Then what it has above the bound is in memory.
abbrev pub late_changes_are_in_memory : Type 0
late_changes_are_in_memory = (bound : ℕ) (q : List ℕ) (inputs : List RowSetData) → AllByRecursion (HasNoneAbove bound) inputs
    → late_in bound q inputs ≡ late_of bound (map (λ (d : RowSetData). hist_in q (store_in d)) inputs)
