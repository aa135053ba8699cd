-- What a disk rowset is after a change, and after its DeltaMemStore is frozen.
use Rattle.std.specs.Prelude.{◌≡◌, ◌≢◌, ◌+◌, ◌<◌, ◌⊎◌, ◌↔◌, ℕ, List, [], ◌∷◌, ◌++◌, Some, None}
use Rattle.std.specs.FinMap.Entries.{put}
use Rattle.kt_history.specs.declared.operation.RowOp.{RowOp}
use Rattle.kt_history.specs.declared.target.Kindly.{Kindly}
use Rattle.kt_history.specs.declared.target.Target.TheVariants.{Delta}
use Rattle.kt_history.specs.Rows.{Row, key_cmp}
use Rattle.kt_history.specs.Stores.{Under, hist_in, push, change_of, share, TakesUpTo}
use Rattle.kt_pool.specs.Contents.{Contents, at_cell, used}
use Rattle.kt_diskrowset.specs.declared.rowset.DiskRowSet.{DiskRowSet}
use Rattle.kt_rowfiles.specs.Files.{row_under}
use Rattle.kt_diskrowset.specs.Mems.{told_by}
use Rattle.kt_diskrowset.specs.Rowset.{frozen_of, mems_of, held_of, files_of, fresh_of, store_of, IsStore, Owns, cells_had, name_of}

-- The change of an operation has come to the row at a place: where all that this has in memory lies below the change, it has this one
-- more, and other rows are as before
pub record Joined (s t : DiskRowSet) (old new : Contents) (ordinal ts : ℕ) (op : RowOp) (kind : Kindly) : Type 0 where
  pub stands : IsStore t new
  pub held : held_of t ≡ held_of s
  pub files : files_of t ≡ files_of s
  pub frozen : told_by new (frozen_of t) ≡ told_by old (frozen_of s)
  pub row : Under ts (fresh_of s old ordinal) → fresh_of t new ordinal ≡ fresh_of s old ordinal ++ (ts, change_of kind op.cells) ∷ []
  pub rest : Under ts (fresh_of s old ordinal) → (n : ℕ) → ordinal ≢ n → fresh_of t new n ≡ fresh_of s old n
  pub name : name_of t ≡ name_of s
  pub takes : TakesUpTo (share op) old new
  pub more : cells_had t new + used old ≡ cells_had s old + used new
  pub keeps : (k : ℕ) → Owns s old k → Owns t new k
  pub grows : (k : ℕ) → Owns t new k → Owns s old k ⊎ (at_cell old k ≡ None)
  pub frame : (k : ℕ) → ¬ Owns t new k → at_cell new k ≡ at_cell old k

-- a DeltaMemStore of this number, with no change, takes its changes, and nothing else is new
pub record IsFrozen (s t : DiskRowSet) (dms : ℕ) : Type 0 where
  pub held : held_of t ≡ held_of s
  pub told : (pool : Contents) → told_by pool (mems_of t) ≡ told_by pool (mems_of s) ++ (dms, []) ∷ []
  pub name : name_of t ≡ Delta s.number dms
  pub stands : (pool : Contents) → IsStore s pool → IsStore t pool
  pub same : (pool : Contents) → store_of t pool ≡ store_of s pool
  pub owns : (pool : Contents) (k : ℕ) → Owns t pool k ↔ Owns s pool k
  pub had : (pool : Contents) → cells_had t pool ≡ cells_had s pool

-- the same files and DeltaMemStores
pub record IsSame (s t : DiskRowSet) : Type 0 where
  pub held : held_of t ≡ held_of s
  pub files : files_of t ≡ files_of s
  pub mems : mems_of t ≡ mems_of s
  pub name : name_of t ≡ name_of s

-- all that it has in memory of the row of a key lies below a time
abbrev pub KeyUnder : ℕ → List ℕ → DiskRowSet → Contents → Type 0
KeyUnder ts q s pool = (found : ℕ × Row) → row_under q 0 (files_of s).base ≡ Some found → Under ts (fresh_of s pool found.0)

-- The change of an operation has come behind all that it has of the key, whatever the times of that, and every other key is as before: what it
-- has in memory of that lies below the time of the change if it did, and later times lie above the change
pub record Rejoined (s t : DiskRowSet) (old new : Contents) (ts : ℕ) (op : RowOp) (kind : Kindly) : Type 0 where
  pub stands : IsStore t new
  pub store : store_of t new ≡ put key_cmp op.key (push ts (change_of kind op.cells) (hist_in op.key (store_of s old))) (store_of s old)
  pub apart : (q : List ℕ) → q ≢ op.key → KeyUnder ts q s old → KeyUnder ts q t new
  pub later : (later : ℕ) → ts < later → ((q : List ℕ) → KeyUnder later q s old) → (q : List ℕ) → KeyUnder later q t new
  pub held : held_of t ≡ held_of s
  pub name : name_of t ≡ name_of s
  pub takes : TakesUpTo (share op) old new
  pub more : cells_had t new + used old ≡ cells_had s old + used new
  pub grows : (k : ℕ) → Owns t new k → Owns s old k ⊎ (at_cell old k ≡ None)
  pub frame : (k : ℕ) → ¬ Owns t new k → at_cell new k ≡ at_cell old k
