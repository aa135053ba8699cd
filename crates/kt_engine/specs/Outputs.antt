-- The outputs of a job: new disk rowsets, each as its files have it.
use Rattle.std.specs.Prelude.{◌≡◌, ℕ, List, [], ◌∷◌}
use Rattle.kt_history.specs.declared.target.Target.TheVariants.{Delta}
use Rattle.kt_pool.specs.Contents.{Contents}
use Rattle.kt_super.specs.declared.meta.MetaRowset.{MetaRowset}
use Rattle.kt_diskrowset.specs.declared.data.RowSetData.{RowSetData}
use Rattle.kt_diskrowset.specs.declared.rowset.DiskRowSet.{DiskRowSet}
use Rattle.kt_diskrowset.specs.Data.{held_in}
use Rattle.kt_diskrowset.specs.Rowset.{held_of, files_of, store_of, name_of, cells_had, IsStore, Owns}
use Rattle.kt_engine.specs.Over.{bare_store}

-- What a clause sees of the outputs of a job: the disk rowsets, how many of them there is room for, and what a superblock says of each.
pub record OutputsView : Type 0 where
  pub rowsets : List DiskRowSet
  pub metas : List MetaRowset
  pub room : ℕ

-- In each pool it stands, has no cell, and holds what its files hold. Its first DeltaMemStore takes changes.
pub record IsBare (d : DiskRowSet) : Type 0 where
  pub stands : (pool : Contents) → IsStore d pool
  pub bare : (pool : Contents) (k : ℕ) → ¬ Owns d pool k
  pub none : (pool : Contents) → cells_had d pool ≡ 0
  pub store : (pool : Contents) → store_of d pool ≡ bare_store (files_of d)
  pub name : name_of d ≡ Delta d.number 1

-- disk rowsets, each beside what a superblock says of it: it names no DeltaMemStore yet
abbrev pub AreOutputs : List MetaRowset → List DiskRowSet → Type 0
AreOutputs [] [] = Unit {0}
AreOutputs [] (d ∷ ds) = ⊥
AreOutputs (m ∷ ms) [] = ⊥
AreOutputs (m ∷ ms) (d ∷ ds) = ((m.last_dms ≡ 0) × IsBare d) × AreOutputs ms ds

-- each is made of these files
abbrev pub AreMade : List RowSetData → List DiskRowSet → Type 0
AreMade [] [] = Unit {0}
AreMade [] (d ∷ ds) = ⊥
AreMade (x ∷ xs) [] = ⊥
AreMade (x ∷ xs) (d ∷ ds) = ((held_of d ≡ held_in x) × IsBare d) × AreMade xs ds
