-- The stores of a tablet where their pool alone has changed.
use Rattle.std.proofs.Common.{◌≡◌, ◌↔◌, ℕ, Bool, List, Result, Ok, Err, ap}
use Rattle.std.specs.Prelude.{OnOk, OnErr, IfOk}
use Rattle.kt_history.proofs.Beside.{Stays, IsPlaced}
use Rattle.kt_history.specs.declared.target.Target.{Target}
use Rattle.kt_history.specs.Stores.{Store}
use Rattle.kt_memrowset.specs.declared.store.MemRowSet.{MemRowSet}
use Rattle.kt_pool.specs.Contents.{Contents, at_cell, with_reserved}
use Rattle.kt_stores.specs.Parts.{kept, shelved, stands_by, owns_by, read_by, shelf_of, AreKept}
use Rattle.kt_stores.proofs.Beside.{kept_same}
use Rattle.kt_stores.proofs.Either.{stays_of, stays_by, placed_by}

module _ {R : Type 0} (stands : R → Contents → Type 0) (owns : R → Contents → ℕ → Type 0) (target : R → Target) (store : R → Contents → Store) (closed : R → Bool) (cells : R → Contents → ℕ)
    (law : (s : R) (old new : Contents) → stands s old → ((k : ℕ) → owns s old k → at_cell new k ≡ at_cell old k) → stands s new × (store s new ≡ store s old) × (cells s new ≡ cells s old) × ((k : ℕ) → owns s new k ↔ owns s old k)) (placed : IsPlaced stands owns) where
  pub stay : Stays (stands_by stands) (owns_by owns) (read_by (shelved target store closed cells))
  stay = stays_by stands owns (shelved target store closed cells) (stays_of stands owns target store closed cells law)

  pub pool_same : (active : MemRowSet) (frozen : List MemRowSet) (rowsets : List R) (old new : Contents) → AreKept (stands_by stands) (owns_by owns) (read_by (shelved target store closed cells)) (kept active frozen rowsets) old → new.places ≡ old.places
      → AreKept (stands_by stands) (owns_by owns) (read_by (shelved target store closed cells)) (kept active frozen rowsets) new × (shelf_of (read_by (shelved target store closed cells)) new (kept active frozen rowsets) ≡ shelf_of (read_by (shelved target store closed cells)) old (kept active frozen rowsets))
  pool_same active frozen rowsets old new here same = kept_same (stands_by stands) (owns_by owns) (read_by (shelved target store closed cells)) stay (placed_by stands owns (shelved target store closed cells) placed) old new (kept active frozen rowsets) here same

pub on_ok : {T E P Q : Type 0} (r : Result T E) → (P → Q) → OnOk r P → OnOk r Q
on_ok (Ok x) f h = f h
on_ok (Err e) f h = h

-- whether more cells are promised or not, the places are the same
pub places_reserved : {T E : Type 0} (r : Result T E) (old new : Contents) (n : ℕ) → OnOk r (new ≡ with_reserved old n) → OnErr r (new ≡ old) → new.places ≡ old.places
places_reserved (Ok x) old new n ok err = ap (λ (p : Contents). p.places) ok
places_reserved (Err e) old new n ok err = ap (λ (p : Contents). p.places) err

pub if_ok : {T E : Type 0} {P Q : T → Type 0} (r : Result T E) → ((x : T) → P x → Q x) → IfOk r P → IfOk r Q
if_ok (Ok x) f h = f x h
if_ok (Err e) f h = h
