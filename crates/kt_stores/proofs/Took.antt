-- What a call of `take` tells, between two views of the stores.
use Rattle.std.proofs.Common.{◌≡◌, ℕ, List, ◌++◌, length, take, drop, None, is_some, sym, ap, subst, ◌∙◌, arith}
use Rattle.std.specs.Prelude.{if◌then◌else◌}
use Rattle.std.proofs.lemmas.List.{append-nil, take_all, drop_all}
use Rattle.kt_history.proofs.Beside.{Stays, IsPlaced}
use Rattle.kt_history.specs.declared.operation.RowOp.{RowOp}
use Rattle.kt_history.specs.declared.row_store.Taken.{Taken}
use Rattle.kt_history.specs.Stores.{kind_made, change_by, with_change, share}
use Rattle.kt_histlaws.specs.Flights.{AllUnder}
use Rattle.kt_histlaws.specs.Histories.{hists, on_nth}
use Rattle.kt_diskrowset.specs.Rowset.{HeldFiles}
use Rattle.kt_memrowset.specs.declared.store.MemRowSet.{MemRowSet}
use Rattle.kt_pool.specs.Contents.{Contents}
use Rattle.kt_stores.specs.Shelf.{Shelved, StoresView, stores_of, last_live, place_of, name_at, holding, TakesAt}
use Rattle.kt_stores.specs.Parts.{kept, stands_by, owns_by, read_by, shelf_of, AreKept, HasTakenAt}
use Rattle.kt_stores.proofs.Taking.{held, shelf_after, stores_after, named_after, idle_after, there_after}

pub record Took (old new : StoresView) (ts : ℕ) (op : RowOp) (taken : Taken) : Type 0 where
  pub there : taken.there ≡ is_some (last_live op.key (stores_of old))
  pub changed : AllUnder ts (hists op.key (stores_of old)) → stores_of new ≡ on_nth (place_of op.key (stores_of old)) (with_change op.key ts (change_by op taken.there)) (stores_of old)
  pub others : TakesAt (place_of op.key (stores_of old)) (share op) old new
  pub named : taken.target ≡ (if is_some (kind_made op.kind taken.there) then name_at (place_of op.key (stores_of old)) old.shelf else None)
  pub idle : taken.target ≡ None → new ≡ old

module _ {X : Type 0} (stands : X → Contents → Type 0) (owns : X → Contents → ℕ → Type 0) (read : X → Contents → Shelved) (stays : Stays stands owns read) (placed : IsPlaced stands owns)
    (n i : ℕ) (xs ys : List X) (old new : Contents) (ts : ℕ) (op : RowOp) (taken : Taken) (kept : AreKept stands owns read xs old) (t : HasTakenAt stands owns read i xs ys old new ts op taken) where
  pub at_place : (fs gs : List HeldFiles) → gs ≡ fs → i ≡ place_of op.key (held (shelf_of read old xs)) → Took (record { pool = old; shelf = shelf_of read old xs; frozen = n; files = fs }) (record { pool = new; shelf = shelf_of read new ys; frozen = n; files = gs }) ts op taken
  at_place fs gs files e =
      let shelf = shelf_after stands owns read stays placed i xs ys old new ts op taken kept t in
      let stores = stores_after stands owns read stays placed i xs ys old new ts op taken kept t in
      let named = named_after stands owns read stays placed i xs ys old new ts op taken kept t in
      let idle = idle_after stands owns read stays placed i xs ys old new ts op taken kept t in
      record {
        there = there_after stands owns read stays placed i xs ys old new ts op taken kept t e;
        changed = λ under. stores under ∙ ap (λ n. on_nth n (with_change op.key ts (change_by op taken.there)) (held (shelf_of read old xs))) e;
        others = record { takes = t.one.takes; holds = (read t.after new).store; shelf = shelf ∙ ap (λ n. on_nth n (holding (read t.after new).store t.one.takes.cells) (shelf_of read old xs)) e; frozen = λ k. n; files = files };
        named = named ∙ ap (λ n. if is_some (kind_made op.kind taken.there) then name_at n (shelf_of read old xs) else None) e;
        idle = λ none. let same = idle none in λ k. record { pool = same.0 k; shelf = same.1 k; frozen = n; files = files k };
      }

-- what is written back through a slice of a vector is all of it
pub written_back : {X : Type 0} (items : List X) (n : ℕ) (now : List X) → n ≡ length items → length now ≡ length items → now ≡ take n (now ++ drop (length now) items)
written_back items n now e f = sym (ap (λ rest. take n (now ++ rest)) (drop_all (length now) items (omega arith)) ∙ ap (take n) (append-nil now) ∙ take_all n now (omega arith))

-- the same frozen stores and rowsets
module _ {R : Type 0} (stands : R → Contents → Type 0) (owns : R → Contents → ℕ → Type 0) (read : R → Contents → Shelved) (active : MemRowSet) (fs gs : List MemRowSet) (rs qs : List R) (pool : Contents) (e : fs ≡ gs) (f : rs ≡ qs) where
  pub kept_along : AreKept (stands_by stands) (owns_by owns) (read_by read) (kept active fs rs) pool → AreKept (stands_by stands) (owns_by owns) (read_by read) (kept active gs qs) pool
  kept_along h = subst (λ gs. AreKept (stands_by stands) (owns_by owns) (read_by read) (kept active gs qs) pool) e (subst (λ qs. AreKept (stands_by stands) (owns_by owns) (read_by read) (kept active fs qs) pool) f h)

  pub took_along : (files : List HeldFiles) (n : ℕ) → n ≡ length gs → (old : StoresView) (ts : ℕ) (op : RowOp) (taken : Taken) → Took old (record { pool = pool; shelf = shelf_of (read_by read) pool (kept active fs rs); frozen = n; files = files }) ts op taken
      → Took old (record { pool = pool; shelf = shelf_of (read_by read) pool (kept active gs qs); frozen = length gs; files = files }) ts op taken
  took_along files n count old ts op taken h =
      subst (λ n. Took old (record { pool = pool; shelf = shelf_of (read_by read) pool (kept active gs qs); frozen = n; files = files }) ts op taken) count
      (subst (λ gs. Took old (record { pool = pool; shelf = shelf_of (read_by read) pool (kept active gs qs); frozen = n; files = files }) ts op taken) e
      (subst (λ qs. Took old (record { pool = pool; shelf = shelf_of (read_by read) pool (kept active fs qs); frozen = n; files = files }) ts op taken) f h))
