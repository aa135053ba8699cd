-- Superblocks that name the same.
use Rattle.std.specs.Prelude.{◌≡◌, ℕ, List, map}
use Rattle.kt_rowfiles.specs.Files.{DiskRowset}
use Rattle.kt_content.specs.Places.{Super}

-- the numbers of rowsets, each with its last DeltaMemStore that is durable
abbrev pub numbered : List DiskRowset → List (ℕ × ℕ)
numbered rowsets = map (λ (d : DiskRowset). (d.rowset, d.last_dms)) rowsets

-- two superblocks name the same rowsets, MemRowSets and DeltaMemStores
pub record NameTheSame (one other : Super) : Type 0 where
  pub mem : one.last_mem ≡ other.last_mem
  pub rowsets : numbered one.rowsets ≡ numbered other.rowsets
