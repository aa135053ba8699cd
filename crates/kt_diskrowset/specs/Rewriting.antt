-- A disk rowset that a job has rewritten.
use Rattle.std.specs.Prelude.{◌≡◌, ◌≤◌, ◌+◌, ℕ, length}
use Rattle.kt_pool.specs.Contents.{Contents, at_cell, used}
use Rattle.kt_diskrowset.specs.declared.rowset.DiskRowSet.{DiskRowSet}
use Rattle.kt_diskrowset.specs.Rowset.{IsStore, store_of, name_of, Owns, cells_had}

-- It tells the same of each key under the same name, and may have given cells back. No place of another store has changed
pub record IsSettled (s t : DiskRowSet) (old new : Contents) : Type 0 where
  pub stands : IsStore t new
  pub store : store_of t new ≡ store_of s old
  pub name : name_of t ≡ name_of s
  pub cells : used new + cells_had s old ≡ used old + cells_had t new
  pub fewer : cells_had t new ≤ cells_had s old
  pub owned : (k : ℕ) → Owns t new k → Owns s old k
  pub frame : (k : ℕ) → ¬ Owns s old k → at_cell new k ≡ at_cell old k
  pub reserved : new.reserved ≡ old.reserved
  pub size : length new.places ≡ length old.places
