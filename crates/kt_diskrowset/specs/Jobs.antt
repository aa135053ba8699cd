-- What a job reads of a disk rowset, and what it puts in its place.
use Rattle.std.specs.Prelude.{◌≡◌, ◌+◌, ◌++◌, ℕ, nat_le, nat_lt, List, length}
use Rattle.std.specs.List.{filter, AllByRecursion}
use Rattle.kt_history.specs.declared.change.Change.{Change}
use Rattle.kt_history.specs.Stores.{Steps}
use Rattle.kt_pool.specs.Contents.{Contents, at_cell, used}
use Rattle.kt_dms.specs.declared.store.DeltaMem.{DeltaMem}
use Rattle.kt_dms.specs.Stores.{number_of, deltas_of}
use Rattle.kt_diskrowset.specs.declared.rowset.DiskRowSet.{DiskRowSet}
use Rattle.kt_diskrowset.specs.Mems.{AllStand, AreApart, OwnedBy, told_by, cells_in, steps_in_mems}
use Rattle.kt_rowfiles.specs.Files.{DiskRowset}
use Rattle.kt_diskrowset.specs.Rows.{Fresh, store_with}
use Rattle.kt_diskrowset.specs.Rowset.{mems_of, store_of, IsStore, Owns, cells_had}

-- the DeltaMemStores with numbers up to one, and the others
abbrev pub upto_number : ℕ → List DeltaMem → List DeltaMem
upto_number dms mems = filter (λ (m : DeltaMem). nat_le (number_of m) dms) mems

abbrev pub behind_number : ℕ → List DeltaMem → List DeltaMem
behind_number dms mems = filter (λ (m : DeltaMem). nat_lt dms (number_of m)) mems

-- changes at or below a time
abbrev pub steps_upto : ℕ → Steps → Steps
steps_upto upto steps = filter (λ (c : ℕ × Change). nat_le c.0 upto) steps

-- the changes of each row at or below a time in the DeltaMemStores with numbers up to one
abbrev pub fresh_upto : ℕ → ℕ → DiskRowSet → Contents → Fresh
fresh_upto upto dms s pool n = steps_upto upto (steps_in_mems pool n (upto_number dms (mems_of s)))

-- and all changes of each row in the others
abbrev pub fresh_behind : ℕ → DiskRowSet → Contents → Fresh
fresh_behind dms s pool n = steps_in_mems pool n (behind_number dms (mems_of s))

-- each of them has its changes as before
abbrev pub AreKept : Contents → Contents → List DeltaMem → Type 0
AreKept old new mems = AllByRecursion (λ (m : DeltaMem). deltas_of m new ≡ deltas_of m old) mems

-- DeltaMemStores have given their cells back, and those that are left stand as they were
pub record AreEmptied (all left : List DeltaMem) (old new : Contents) : Type 0 where
  pub stand : AllStand new left
  pub apart : AreApart new left
  pub kept : AreKept old new left
  pub owned : (k : ℕ) → OwnedBy new left k → OwnedBy old all k
  pub frame : (k : ℕ) → ¬ OwnedBy old all k → at_cell new k ≡ at_cell old k
  pub cells : used new + cells_in old all ≡ used old + cells_in new left
  pub reserved : new.reserved ≡ old.reserved
  pub size : length new.places ≡ length old.places

-- of these DeltaMemStores the first ones are gone over: where their numbers are not above one, they have given their cells back
pub record Emptying (dms : ℕ) (all left : List DeltaMem) (at : ℕ) (old now : Contents) : Type 0 where
  pub front : List DeltaMem
  pub rest : List DeltaMem
  pub all_is : all ≡ front ++ rest
  pub left_is : left ≡ behind_number dms front ++ rest
  pub at_is : at ≡ length (behind_number dms front)
  pub emptied : AreEmptied all left old now

-- Other files have come, and the DeltaMemStores with numbers up to one have given their cells back. No place of another store has changed
pub record HasFiles (s t : DiskRowSet) (old new : Contents) (files : DiskRowset) (dms : ℕ) : Type 0 where
  pub stands : IsStore t new
  pub store : store_of t new ≡ store_with files (fresh_behind dms s old)
  pub left : told_by new (mems_of t) ≡ told_by old (behind_number dms (mems_of s))
  pub cells : used new + cells_had s old ≡ used old + cells_had t new
  pub owned : (k : ℕ) → Owns t new k → Owns s old k
  pub frame : (k : ℕ) → ¬ Owns s old k → at_cell new k ≡ at_cell old k
  pub reserved : new.reserved ≡ old.reserved
  pub size : length new.places ≡ length old.places
