-- The changes in memory of a disk rowset above a time, under the keys of their rows.
use Rattle.std.specs.Prelude.{ℕ, suc, ◌<◌, List, [], ◌∷◌, ◌++◌, map, Option, Some, None}
use Rattle.kt_baseset.specs.declared.rows.KeyedRow.{KeyedRow}
use Rattle.kt_dms.specs.Stores.{steps_above}
use Rattle.kt_history.specs.declared.changes.KeyChange.{KeyChange}
use Rattle.kt_history.specs.Stores.{key_change}
use Rattle.kt_pool.specs.Contents.{Contents}
use Rattle.kt_diskrowset.specs.declared.rowset.DiskRowSet.{DiskRowSet}
use Rattle.kt_diskrowset.specs.Rows.{Fresh}
use Rattle.kt_diskrowset.specs.Rowset.{fresh_of}

-- of rows whose places are counted from n, those of each row as they were made
abbrev pub changes_from : ℕ → Fresh → ℕ → List KeyedRow → List KeyChange
changes_from above fresh n [] = []
changes_from above fresh n (r ∷ rows) = map (key_change r.key) (steps_above above (fresh n)) ++ changes_from above fresh (suc n) rows

-- of all its rows, by rising key
abbrev pub changes_above : ℕ → DiskRowSet → Contents → List KeyChange
changes_above above s pool = changes_from above (fresh_of s pool) 0 s.base.set.value.rows

-- a row is before another, or before none
abbrev pub Precedes : ℕ → Option ℕ → Type 0
Precedes n None = Unit {0}
Precedes n (Some row) = n < row
