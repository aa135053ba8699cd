-- The outputs of a job that publishes, behind what it leaves: what the tablet has once the job is over.
use Rattle.std.specs.Prelude.{◌≤◌, ◌<◌, ℕ, zero, suc, List, [], ◌∷◌, map, Option, Some, None, nat_le, if◌then◌else◌}
use Rattle.kt_history.specs.declared.target.Target.{Target}
use Rattle.kt_history.specs.declared.target.Target.TheVariants.{Mem, Delta}
use Rattle.kt_history.specs.Stores.{Store}
use Rattle.kt_histlaws.specs.Core.{Core}
use Rattle.kt_rowfiles.specs.Files.{DiskRowset}
use Rattle.kt_diskrowset.specs.Rows.{store_with}
use Rattle.kt_stores.specs.Takes.{Takes, over_to}

-- a disk rowset as it is with its files alone, and its name: its first DeltaMemStore takes changes
abbrev pub bare_store : DiskRowset → Store
bare_store d = store_with d (λ n. [])

abbrev pub first_name : DiskRowset → Target
first_name d = Delta d.rowset 1

-- what the job that publishes takes, its outputs, and the number of its superblock
pub record Over : Type 0 where
  pub number : ℕ
  pub takes : Takes
  pub outputs : List DiskRowset

-- what a superblock of this number is told of: one from the job's own on is told of the stores that stand once the job is over
abbrev pub over_at : ℕ → Option Over → Option Over
over_at number None = None
over_at number (Some o) = if nat_le o.number number then Some o else None

abbrev pub stores_over : Option Over → List Target → List Store → List Store
stores_over None names stores = stores
stores_over (Some o) names stores = over_to o.takes (map bare_store o.outputs) names stores

abbrev pub names_over : Option Over → List Target → List Target
names_over None names = names
names_over (Some o) names = over_to o.takes (map first_name o.outputs) names names

abbrev pub core_over : Option Over → List Target → Core → Core
core_over o names core = record core { stores = stores_over o names core.stores }

-- names of disk rowsets alone
abbrev pub AreRowsetNames : List Target → Type 0
AreRowsetNames [] = Unit {0}
AreRowsetNames (Mem n ∷ names) = ⊥
AreRowsetNames (Delta r n ∷ names) = AreRowsetNames names

-- so many names of MemRowSets below a number, by falling number, and behind them those of disk rowsets
abbrev pub AreShelved : ℕ → ℕ → List Target → Type 0
AreShelved zero last names = AreRowsetNames names
AreShelved (suc many) last [] = ⊥
AreShelved (suc many) last (Mem n ∷ names) = (n < last) × AreShelved many n names
AreShelved (suc many) last (Delta r n ∷ names) = ⊥

-- names of MemRowSets above one and up to another, and of rowsets below one
abbrev pub AreTaken : ℕ → ℕ → List Target → Type 0
AreTaken low last [] = Unit {0}
AreTaken low last (Mem n ∷ names) = ((low < n) × (n ≤ last)) × AreTaken low last names
AreTaken low last (Delta r n ∷ names) = ⊥

abbrev pub AreLeft : ℕ → List Target → Type 0
AreLeft next [] = Unit {0}
AreLeft next (Mem n ∷ names) = ⊥
AreLeft next (Delta r n ∷ names) = (r < next) × AreLeft next names

-- names of disk rowsets below one, among any of MemRowSets
abbrev pub AreLow : ℕ → List Target → Type 0
AreLow next [] = Unit {0}
AreLow next (Mem n ∷ names) = AreLow next names
AreLow next (Delta r n ∷ names) = (r < next) × AreLow next names
