-- What a MemRowSet or a disk rowset did with an operation, said of the stores in their order.
use Rattle.std.proofs.Common.{◌≡◌, ℕ, ◌+◌, ◌<◌, List, length, get_or, sym, ap, ◌∙◌, inl, inr}
use Rattle.std.specs.Prelude.{slice_get, set}
use Rattle.kt_history.specs.declared.operation.RowOp.{RowOp}
use Rattle.kt_history.specs.declared.row_store.Taken.{Taken}
use Rattle.kt_histlaws.specs.Histories.{on_nth}
use Rattle.kt_memrowset.specs.declared.store.MemRowSet.{MemRowSet}
use Rattle.kt_memrowset.specs.Stores.{IsStore, Owns}
use Rattle.kt_pool.specs.Contents.{Contents}
use Rattle.kt_stores.specs.Shelf.{Shelved}
use Rattle.kt_stores.specs.Parts.{kept, stands_by, owns_by, read_by, shelved_mem, HasTaken, HasTakenAt}
use Rattle.kt_stores.proofs.Ordered.{get_at, set_on, frozen_at, rowset_at, frozen_on, rowset_on}

module _ {R : Type 0} (stands : R → Contents → Type 0) (owns : R → Contents → ℕ → Type 0) (read : R → Contents → Shelved) (old new : Contents) (ts : ℕ) (op : RowOp) (taken : Taken) where
  mem_taken : (x y : MemRowSet) → HasTaken IsStore Owns shelved_mem x y old new ts op taken → HasTaken (stands_by stands) (owns_by owns) (read_by read) (inl x) (inl y) old new ts op taken
  mem_taken x y t = record {
    grown = record { here = t.grown.here; grows = t.grown.grows; frame = t.grown.frame };
    there = t.there;
    changed = t.changed;
    named = t.named;
    name = t.name;
    closed = t.closed;
    takes = t.takes;
    more = t.more;
    has_row = t.has_row;
    idle = t.idle;
  }

  other_taken : (x y : R) → HasTaken stands owns read x y old new ts op taken → HasTaken (stands_by stands) (owns_by owns) (read_by read) (inr x) (inr y) old new ts op taken
  other_taken x y t = record {
    grown = record { here = t.grown.here; grows = t.grown.grows; frame = t.grown.frame };
    there = t.there;
    changed = t.changed;
    named = t.named;
    name = t.name;
    closed = t.closed;
    takes = t.takes;
    more = t.more;
    has_row = t.has_row;
    idle = t.idle;
  }

  module _ (active : MemRowSet) (frozen : List MemRowSet) (rowsets : List R) where
    pub active_taken : (at : ℕ) (y : MemRowSet) → at ≡ 0 → HasTaken IsStore Owns shelved_mem active y old new ts op taken
        → HasTakenAt (stands_by stands) (owns_by owns) (read_by read) at (kept active frozen rowsets) (kept y frozen rowsets) old new ts op taken
    active_taken at y e t = record {
      before = inl active;
      after = inl y;
      at = ap (slice_get (kept active frozen rowsets)) e;
      is = ap (λ n. on_nth n (λ _. inl y) (kept active frozen rowsets)) (sym e);
      one = mem_taken active y t;
    }

    pub frozen_taken : (at j : ℕ) (x y : MemRowSet) → at ≡ 1 + j → j < length frozen → HasTaken IsStore Owns shelved_mem (get_or frozen j x) y old new ts op taken
        → HasTakenAt (stands_by stands) (owns_by owns) (read_by read) at (kept active frozen rowsets) (kept active (set frozen j y) rowsets) old new ts op taken
    frozen_taken at j x y e low t = record {
      before = inl (get_or frozen j x);
      after = inl y;
      at = frozen_at active frozen rowsets at j (get_or frozen j x) e (get_at frozen j x low);
      is = ap (λ ss. kept active ss rowsets) (set_on frozen j y) ∙ frozen_on active frozen rowsets at j y e low;
      one = mem_taken (get_or frozen j x) y t;
    }

    pub rowset_taken : (at j : ℕ) (x y : R) → at ≡ 1 + length frozen + j → j < length rowsets → HasTaken stands owns read (get_or rowsets j x) y old new ts op taken
        → HasTakenAt (stands_by stands) (owns_by owns) (read_by read) at (kept active frozen rowsets) (kept active frozen (set rowsets j y)) old new ts op taken
    rowset_taken at j x y e low t = record {
      before = inr (get_or rowsets j x);
      after = inr y;
      at = rowset_at active frozen rowsets at j (get_or rowsets j x) e (get_at rowsets j x low);
      is = ap (λ rs. kept active frozen rs) (set_on rowsets j y) ∙ rowset_on active frozen rowsets at j y e;
      one = other_taken (get_or rowsets j x) y t;
    }
