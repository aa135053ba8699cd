-- Of the stores of a tablet those in memory are stores of changes alone.
use Rattle.std.proofs.Common.{◌≡◌, suc, ◌+◌, List, [], ◌∷◌, ◌++◌, map, length, take, subst, inl, inr, arith}
use Rattle.kt_history.specs.Beside.{AllStand}
use Rattle.kt_history.specs.Grown.{AllGrown}
use Rattle.kt_memrowset.proofs.Grown.{is_grown}
use Rattle.kt_memrowset.specs.declared.store.MemRowSet.{MemRowSet}
use Rattle.kt_pool.specs.Contents.{Contents}
use Rattle.kt_stores.specs.Shelf.{Shelved}
use Rattle.kt_stores.specs.Parts.{kept, stands_by, read_by, shelf_of}
use Rattle.kt_stores.proofs.Taking.{held}

module _ {R : Type 0} (stands : R → Contents → Type 0) (read : R → Contents → Shelved) (pool : Contents) where
  frozen_grown : (fs : List MemRowSet) (rs : List R) → AllStand (stands_by stands) pool (map inl fs ++ map inr rs) → AllGrown (take (length fs) (held (shelf_of (read_by read) pool (map inl fs ++ map inr rs))))
  frozen_grown [] rs st = tt
  frozen_grown (f ∷ fs) rs st = (is_grown f pool st.0, frozen_grown fs rs st.1)

  pub memory_grown : (active : MemRowSet) (fs : List MemRowSet) (rs : List R) → AllStand (stands_by stands) pool (kept active fs rs) → AllGrown (take (1 + length fs) (held (shelf_of (read_by read) pool (kept active fs rs))))
  memory_grown active fs rs st =
      let e : suc (length fs) ≡ 1 + length fs = omega arith in
      subst (λ n. AllGrown (take n (held (shelf_of (read_by read) pool (kept active fs rs))))) e (is_grown active pool st.0, frozen_grown fs rs st.1)
