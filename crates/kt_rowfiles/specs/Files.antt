-- What the files of a disk rowset have of each key.
use Rattle.std.specs.Prelude.{ℕ, suc, ◌==◌, nat_lt, List, [], ◌∷◌, ◌++◌, Option, Some, None, if◌then◌else◌}
use Rattle.std.specs.Ordering.{eq_by_cmp}
use Rattle.kt_history.specs.declared.change.Change.{Change}
use Rattle.kt_history.specs.declared.changes.Delta.{Delta}
use Rattle.kt_history.specs.Rows.{Row, Rows, key_cmp}
use Rattle.kt_history.specs.Stores.{Steps, Hist, never}
use Rattle.kt_histlaws.specs.Disks.{hist_of}

-- a disk rowset as its files tell it: its number, the last of its DeltaMemStores that they hold, its base rows by rising key, and
-- the records of its UNDO and REDO files, which name a base row by its place
pub record DiskRowset : Type 0 where
  pub rowset : ℕ
  pub last_dms : ℕ
  pub base : Rows
  pub undos : List (List Delta)
  pub redos : List (List Delta)

-- the place of a key among rows, counted from n, and its row
abbrev pub row_under : List ℕ → ℕ → Rows → Option (ℕ × Row)
row_under q n [] = None
row_under q n (r ∷ rows) = if eq_by_cmp key_cmp q r.0 then Some (n, r.1) else row_under q (suc n) rows

-- the records of the row at this place, in one file and in several
abbrev pub records_for : ℕ → List Delta → Steps
records_for n [] = []
records_for n (d ∷ file) = if d.ordinal == n then (d.ts, d.change) ∷ records_for n file else records_for n file

abbrev pub records_in : ℕ → List (List Delta) → Steps
records_in n [] = []
records_in n (file ∷ files) = records_for n file ++ records_in n files

-- changes from the oldest, and from the newest, whatever file they stand in
abbrev pub put_rising : ℕ × Change → Steps → Steps
put_rising c [] = c ∷ []
put_rising c (d ∷ steps) = if nat_lt d.0 c.0 then d ∷ put_rising c steps else c ∷ d ∷ steps

abbrev pub rising : Steps → Steps
rising [] = []
rising (c ∷ steps) = put_rising c (rising steps)

abbrev pub put_falling : ℕ × Change → Steps → Steps
put_falling c [] = c ∷ []
put_falling c (d ∷ steps) = if nat_lt c.0 d.0 then d ∷ put_falling c steps else c ∷ d ∷ steps

abbrev pub falling : Steps → Steps
falling [] = []
falling (c ∷ steps) = put_falling c (falling steps)

-- the row of a key with its records
abbrev pub row_with : DiskRowset → Option (ℕ × Row) → Hist
row_with d None = never
row_with d (Some found) = hist_of (record { base = found.1; undos = falling (records_in found.0 d.undos); redos = rising (records_in found.0 d.redos) })

-- the history of a key in a disk rowset
abbrev pub hist_in_files : List ℕ → DiskRowset → Hist
hist_in_files q d = row_with d (row_under q 0 d.base)

-- the REDO records of its row
abbrev pub redos_with : DiskRowset → Option (ℕ × Row) → Steps
redos_with d None = []
redos_with d (Some found) = rising (records_in found.0 d.redos)
