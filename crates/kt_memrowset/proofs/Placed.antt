-- A MemRowSet owns no vacant cell.
use Rattle.std.proofs.Common.{ℕ, inl, inr}
use Rattle.kt_pool.specs.Contents.{Contents, Stands}
use Rattle.kt_tree.proofs.Callers.{owned}
use Rattle.kt_memrowset.specs.declared.store.MemRowSet.{MemRowSet}
use Rattle.kt_memrowset.specs.Stores.{IsStore, Owns, trail}
use Rattle.kt_memrowset.proofs.Trails.{trail_stands}

pub is_placed : (s : MemRowSet) (pool : Contents) (k : ℕ) → IsStore s pool → Owns s pool k → Stands pool k
is_placed s pool k here own = elim own [
  | inl node ↦ owned s.tree pool k here.tree node
  | inr change ↦ trail_stands pool s.newest (trail s pool) k here.trails change
]
