-- The rows of a disk rowset, and the history of each: what its files have of it, and behind it its changes in memory.
use Rattle.std.specs.Prelude.{◌≡◌, ℕ, suc, ◌^◌, List, [], ◌∷◌, ◌++◌, map, Option, Some, None}
use Rattle.kt_baseset.specs.declared.rows.KeyedRow.{KeyedRow}
use Rattle.kt_history.specs.Rows.{Row, Rows}
use Rattle.kt_history.specs.Stores.{Steps, Hist, Store, never}
use Rattle.kt_histlaws.specs.Disks.{AreUndos}
use Rattle.kt_rowfiles.specs.Files.{DiskRowset, row_under, records_in, falling, row_with}

-- the rows of a base file under their keys
abbrev pub rows_of : List KeyedRow → Rows
rows_of rows = map (λ (r : KeyedRow). (r.key, r.cells)) rows

-- the changes in memory of each row, by its place
abbrev pub Fresh : Type 0
Fresh = ℕ → Steps

-- changes come behind a history
abbrev pub with_steps : Hist → Steps → Hist
with_steps h steps = record h { steps = h.steps ++ steps }

-- the history of the row at a place
abbrev pub hist_at : DiskRowset → Fresh → ℕ × Row → Hist
hist_at d fresh found = with_steps (row_with d (Some found)) (fresh found.0)

-- and that of a key, which may have no row
abbrev pub hist_found : DiskRowset → Fresh → Option (ℕ × Row) → Hist
hist_found d fresh None = never
hist_found d fresh (Some found) = hist_at d fresh found

abbrev pub hist_under : List ℕ → DiskRowset → Fresh → Hist
hist_under q d fresh = hist_found d fresh (row_under q 0 d.base)

-- rows whose places are counted from n, each with its history
abbrev pub hists_from : DiskRowset → Fresh → ℕ → Rows → Store
hists_from d fresh n [] = []
hists_from d fresh n (r ∷ rows) = (r.0, hist_at d fresh (n, r.1)) ∷ hists_from d fresh (suc n) rows

-- what a disk rowset keeps of its rows
abbrev pub store_with : DiskRowset → Fresh → Store
store_with d fresh = hists_from d fresh 0 d.base

-- each UNDO record of each row leads back
abbrev pub UndosLeadBack : DiskRowset → Type 0
UndosLeadBack d = (q : List ℕ) (found : ℕ × Row) → row_under q 0 d.base ≡ Some found → AreUndos (2 ^ 64) (falling (records_in found.0 d.undos)) (Some found.1)
