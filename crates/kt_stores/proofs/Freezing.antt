-- A disk rowset whose DeltaMemStore is frozen, or is not, as a store among others.
use Rattle.std.proofs.Common.{◌≡◌, ℕ, Bool, Result, Ok, Err, refl, sym, subst}
use Rattle.std.specs.Prelude.{OnErr}
use Rattle.kt_pool.specs.Contents.{Contents}
use Rattle.kt_diskrowset.specs.declared.rowset.DiskRowSet.{DiskRowSet}
use Rattle.kt_diskrowset.specs.Joining.{IsFrozen, IsSame}
use Rattle.kt_diskrowset.specs.Mems.{AllStand, AreApart, OwnedBy, steps_in_mems, cells_in}
use Rattle.kt_diskrowset.specs.Rewriting.{IsSettled}
use Rattle.kt_diskrowset.specs.Rows.{UndosLeadBack, store_with}
use Rattle.kt_diskrowset.specs.Rowset.{IsStore, Owns, name_of, store_of, cells_had}
use Rattle.kt_stores.specs.Parts.{shelved}
use Rattle.kt_stores.specs.Shelf.{renamed}
use Rattle.kt_stores.proofs.Shrinking.{HasShrunk}

module _ (s t : DiskRowSet) (pool : Contents) (closed : DiskRowSet → Bool) (same_closed : closed t ≡ closed s) (st : IsStore s pool) where
  pub frozen_shrunk : (dms : ℕ) → IsFrozen s t dms → HasShrunk IsStore Owns s t pool pool
  frozen_shrunk dms e = record { here = e.stands pool st; owned = λ k own. (e.owns pool k).0 own; frame = λ k none. refl }

  pub frozen_read : (dms : ℕ) → IsFrozen s t dms → shelved name_of store_of closed cells_had t pool ≡ renamed dms (shelved name_of store_of closed cells_had s pool)
  frozen_read dms e = λ i. record { name = e.name i; store = e.same pool i; closed = same_closed i; cells = e.had pool i }

  pub same_shrunk : IsSame s t → HasShrunk IsStore Owns s t pool pool
  same_shrunk e = record {
    here = record { stand = subst (AllStand pool) (sym e.mems) st.stand; apart = subst (AreApart pool) (sym e.mems) st.apart; lead = subst UndosLeadBack (sym e.files) st.lead };
    owned = λ k own. subst (λ ms. OwnedBy pool ms k) e.mems own;
    frame = λ k none. refl;
  }

  pub same_read : IsSame s t → shelved name_of store_of closed cells_had t pool ≡ shelved name_of store_of closed cells_had s pool
  same_read e = λ i. record { name = e.name i; store = store_with (e.files i) (λ n. steps_in_mems pool n (e.mems i)); closed = same_closed i; cells = cells_in pool (e.mems i) }

pub settled_shrunk : (s t : DiskRowSet) (old new : Contents) → IsSettled s t old new → HasShrunk IsStore Owns s t old new
settled_shrunk s t old new e = record { here = e.stands; owned = e.owned; frame = e.frame }

pub on_err : {T E P : Type 0} (r : Result T E) → P → OnErr r P
on_err (Ok x) p = tt
on_err (Err e) p = p
