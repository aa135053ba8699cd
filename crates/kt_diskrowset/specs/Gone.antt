-- A disk rowset that has left a tablet.
use Rattle.std.specs.Prelude.{◌≡◌, ◌+◌, ℕ, length}
use Rattle.kt_pool.specs.Contents.{Contents, at_cell, used}
use Rattle.kt_diskrowset.specs.declared.rowset.DiskRowSet.{DiskRowSet}
use Rattle.kt_diskrowset.specs.Rowset.{Owns, cells_had}

-- Its cells are free, and no place of another store has changed
pub record HasGone (s : DiskRowSet) (old new : Contents) : Type 0 where
  pub frame : (k : ℕ) → ¬ Owns s old k → at_cell new k ≡ at_cell old k
  pub fewer : used new + cells_had s old ≡ used old
  pub reserved : new.reserved ≡ old.reserved
  pub size : length new.places ≡ length old.places
