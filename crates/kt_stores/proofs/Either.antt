-- MemRowSets and disk rowsets together: each stands as it was where no place of its own has changed, and owns no vacant cell.
use Rattle.std.proofs.Common.{◌≡◌, ◌↔◌, ℕ, Bool, inl, inr}
use Rattle.kt_history.proofs.Beside.{Stays, IsPlaced}
use Rattle.kt_history.specs.declared.target.Target.{Target}
use Rattle.kt_history.specs.declared.target.Target.TheVariants.{Mem}
use Rattle.kt_history.specs.Stores.{Store}
use Rattle.kt_memrowset.specs.Stores.{IsStore, Owns, number_of, is_frozen}
use Rattle.kt_memrowset.proofs.Placed.{is_placed}
use Rattle.kt_memrowset.proofs.Frames.{is_still, store_still, had_still, owns_back, owns_on}
use Rattle.kt_pool.specs.Contents.{Contents, at_cell}
use Rattle.kt_stores.specs.Shelf.{Shelved}
use Rattle.kt_stores.specs.Parts.{shelved, shelved_mem, stands_by, owns_by, read_by}

pub stays_of : {R : Type 0} (stands : R → Contents → Type 0) (owns : R → Contents → ℕ → Type 0) (target : R → Target) (store : R → Contents → Store) (closed : R → Bool) (cells : R → Contents → ℕ)
    → ((s : R) (old new : Contents) → stands s old → ((k : ℕ) → owns s old k → at_cell new k ≡ at_cell old k) → stands s new × (store s new ≡ store s old) × (cells s new ≡ cells s old) × ((k : ℕ) → owns s new k ↔ owns s old k))
    → Stays stands owns (shelved target store closed cells)
stays_of stands owns target store closed cells law s old new here same =
    let still = law s old new here same in (
      still.0,
      (λ k. record { name = target s; store = still.1 k; closed = closed s; cells = still.2 k }),
      still.3,
    )

pub mem_stays : Stays IsStore Owns shelved_mem
mem_stays s old new here same = (
  is_still s old new here same,
  (λ k. record { name = Mem (number_of s); store = store_still s old new here same k; closed = is_frozen s; cells = had_still s old new here same k }),
  (λ k. (owns_back s old new here same k, owns_on s old new here same k)),
)

module _ {R : Type 0} (stands : R → Contents → Type 0) (owns : R → Contents → ℕ → Type 0) (read : R → Contents → Shelved) where
  pub stays_by : Stays stands owns read → Stays (stands_by stands) (owns_by owns) (read_by read)
  stays_by stays (inl s) old new here same = mem_stays s old new here same
  stays_by stays (inr s) old new here same = stays s old new here same

  pub placed_by : IsPlaced stands owns → IsPlaced (stands_by stands) (owns_by owns)
  placed_by placed (inl s) pool k here own = is_placed s pool k here own
  placed_by placed (inr s) pool k here own = placed s pool k here own
