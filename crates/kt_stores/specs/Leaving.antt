-- Stores that leave a tablet, one after another, and give their cells back.
use Rattle.std.specs.Prelude.{◌≡◌, ◌+◌, ℕ, nat_le, not, Bool, true, List, ◌++◌, length}
use Rattle.std.specs.List.{AllByRecursion, filter}
use Rattle.kt_history.specs.Beside.{AllStand, OwnedBy, AreApart}
use Rattle.kt_memrowset.specs.declared.store.MemRowSet.{MemRowSet}
use Rattle.kt_memrowset.specs.Stores.{number_of}
use Rattle.kt_diskrowset.specs.declared.rowset.DiskRowSet.{DiskRowSet}
use Rattle.kt_diskrowset.specs.Rowset.{name_of, store_of, cells_had, IsStore, Owns}
use Rattle.kt_pool.specs.Contents.{Contents, at_cell, used}
use Rattle.kt_stores.specs.Shelf.{Shelved, cells_in}
use Rattle.kt_stores.specs.Parts.{shelved, shelf_of}
use Rattle.kt_stores.specs.Takes.{rowsets, takes}

-- a disk rowset as it stands in a pool
abbrev pub shelved_rowset : DiskRowSet → Contents → Shelved
shelved_rowset r pool = shelved name_of store_of (λ s. true) cells_had r pool

-- a MemRowSet of a number above one stays, and a disk rowset of none of some numbers
abbrev pub stays_behind : ℕ → MemRowSet → Bool
stays_behind last s = not (nat_le (number_of s) last)

abbrev pub stays_beside : List ℕ → DiskRowSet → Bool
stays_beside numbers r = not (takes (rowsets numbers) (name_of r))

-- Some of these stores have left, and the others stand as they were. No place of any other store has changed
pub record HaveLeft {X : Type 0} (stands : X → Contents → Type 0) (owns : X → Contents → ℕ → Type 0) (read : X → Contents → Shelved) (all left : List X) (old new : Contents) : Type 0 where
  pub stand : AllStand stands new left
  pub apart : AreApart owns new left
  pub same : AllByRecursion (λ (x : X). read x new ≡ read x old) left
  pub owned : (k : ℕ) → OwnedBy owns new left k → OwnedBy owns old all k
  pub frame : (k : ℕ) → ¬ OwnedBy owns old all k → at_cell new k ≡ at_cell old k
  pub cells : used new + cells_in (shelf_of read old all) ≡ used old + cells_in (shelf_of read new left)
  pub reserved : new.reserved ≡ old.reserved
  pub size : length new.places ≡ length old.places

-- the first of them are gone over: of these the ones that stay are left, and behind them the rest
pub record Going {X : Type 0} (stands : X → Contents → Type 0) (owns : X → Contents → ℕ → Type 0) (read : X → Contents → Shelved) (stays : X → Bool) (all left : List X) (at : ℕ) (old now : Contents) : Type 0 where
  pub front : List X
  pub rest : List X
  pub all_is : all ≡ front ++ rest
  pub left_is : left ≡ filter stays front ++ rest
  pub at_is : at ≡ length (filter stays front)
  pub gone : HaveLeft stands owns read all left old now

-- disk rowsets that come: they stand in the pool and have no cell there
pub record AreNew (pool : Contents) (rowsets : List DiskRowSet) : Type 0 where
  pub stand : AllByRecursion (λ (r : DiskRowSet). IsStore r pool) rowsets
  pub bare : AllByRecursion (λ (r : DiskRowSet). (k : ℕ) → ¬ Owns r pool k) rowsets
  pub none : AllByRecursion (λ (r : DiskRowSet). cells_had r pool ≡ 0) rowsets
