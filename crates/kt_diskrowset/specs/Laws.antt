-- What disk rowsets keep to.
use Rattle.std.specs.Prelude.{◌≡◌, ◌≢◌, ◌↔◌, ℕ, List, None}
use Rattle.std.specs.List.{AllByRecursion}
use Rattle.kt_history.specs.Stores.{hist_in, last_row}
use Rattle.kt_pool.specs.Contents.{Contents, Stands, at_cell}
use Rattle.kt_diskrowset.specs.declared.rowset.DiskRowSet.{DiskRowSet}
use Rattle.kt_diskrowset.specs.Rowset.{IsStore, store_of, held_of, Owns, cells_had}
use Rattle.kt_diskrowset.specs.Held.{keys_held}

-- a rowset stands as it was where no place of its own has changed
abbrev pub rowsets_stay : Type 0
rowsets_stay = (s : DiskRowSet) (old new : Contents) → IsStore s old → ((k : ℕ) → Owns s old k → at_cell new k ≡ at_cell old k)
    → IsStore s new × (store_of s new ≡ store_of s old) × (cells_had s new ≡ cells_had s old) × ((k : ℕ) → Owns s new k ↔ Owns s old k)

-- it owns no vacant cell
abbrev pub rowsets_own_no_vacant_cell : Type 0
rowsets_own_no_vacant_cell = (s : DiskRowSet) (pool : Contents) (k : ℕ) → IsStore s pool → Owns s pool k → Stands pool k

-- a key that no row of the base file has is not there
abbrev pub rows_are_of_keys : Type 0
rows_are_of_keys = (s : DiskRowSet) (pool : Contents) (q : List ℕ) → AllByRecursion (λ (key : List ℕ). key ≢ q) (keys_held (held_of s)) → last_row (hist_in q (store_of s pool)) ≡ None
