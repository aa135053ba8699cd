-- What stores keep to.
use Rattle.std.specs.Prelude.{◌≡◌, ◌↔◌, ◌≤◌, ◌+◌, ℕ}
use Rattle.kt_history.specs.declared.operation.RowOp.{RowOp}
use Rattle.kt_history.specs.Grown.{IsGrown}
use Rattle.kt_pool.specs.Contents.{Contents, Stands, at_cell}
use Rattle.kt_tree.specs.Trees.{need}
use Rattle.kt_memrowset.specs.declared.store.MemRowSet.{MemRowSet}
use Rattle.kt_memrowset.specs.Stores.{IsStore, store_of, Owns, cells_had, link_need}
use Rattle.kt_history.specs.Stores.{share}

-- the store stands at both, with the same rows in the same places and as many cells
pub record StaysSo (s : MemRowSet) (old new : Contents) : Type 0 where
  pub stands : IsStore s new
  pub same : store_of s new ≡ store_of s old
  pub owns : (k : ℕ) → Owns s new k ↔ Owns s old k
  pub had : cells_had s new ≡ cells_had s old

-- a store stands as it was where no place of its own has changed
abbrev pub stores_stay : Type 0
stores_stay = (s : MemRowSet) (old new : Contents) → IsStore s old → ((k : ℕ) → Owns s old k → at_cell new k ≡ at_cell old k) → StaysSo s old new

-- at each cell that a store owns a place stands
abbrev pub places_stand : Type 0
places_stand = (s : MemRowSet) (pool : Contents) (k : ℕ) → IsStore s pool → Owns s pool k → Stands pool k

-- its keys rise, and all that a store has of a row are its changes
abbrev pub stores_are_grown : Type 0
stores_are_grown = (s : MemRowSet) (pool : Contents) → IsStore s pool → IsGrown (store_of s pool)

-- a key and a change of it take at most half of what a write of the operation needs
abbrev pub shares_suffice : Type 0
shares_suffice = (op : RowOp) → need op.key + link_need op.cells ≤ share op
