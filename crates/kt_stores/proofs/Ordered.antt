-- The stores of a tablet in their order: which one stands at a place.
use Rattle.std.proofs.Common.{◌≡◌, ◌⊎◌, ℕ, zero, suc, ◌+◌, ◌<◌, List, [], ◌∷◌, ◌++◌, map, length, get_or, Some, refl, sym, ap, subst, ◌∙◌, inl, inr, arith, length-append}
use Rattle.std.specs.Prelude.{slice_get, set}
use Rattle.std.specs.List.{All}
use Rattle.std.proofs.lemmas.List.{length-map}
use Rattle.kt_history.specs.Beside.{AllStand}
use Rattle.kt_histlaws.specs.Histories.{on_nth}
use Rattle.kt_memrowset.specs.declared.store.MemRowSet.{MemRowSet}
use Rattle.kt_memrowset.specs.Stores.{IsStore}
use Rattle.kt_pool.specs.Contents.{Contents}
use Rattle.kt_stores.specs.Shelf.{Shelved}
use Rattle.kt_stores.specs.Parts.{kept, stands_by, shelf_of}
use Rattle.kt_stores.proofs.Beside.{none_some, some_is, map-on_nth, map_at}

-- ---- lists

pub get_at : {X : Type 0} (xs : List X) (i : ℕ) (d : X) → i < length xs → slice_get xs i ≡ Some (get_or xs i d)
get_at [] i d low = absurd (omega arith)
get_at (x ∷ xs) zero d low = refl
get_at (x ∷ xs) (suc i) d low = get_at xs i d (omega arith)

pub read_is : {X : Type 0} (xs : List X) (i : ℕ) (x : X) → i < length xs → x ≡ get_or xs i x → slice_get xs i ≡ Some x
read_is xs i x low e = get_at xs i x low ∙ ap (λ x. Some x) (sym e)

pub inside : {X : Type 0} (xs : List X) (i : ℕ) (x : X) → slice_get xs i ≡ Some x → i < length xs
inside [] i x at = none_some x at
inside (y ∷ xs) zero x at = omega arith
inside (y ∷ xs) (suc i) x at = let low = inside xs i x at in omega arith

pub set_on : {X : Type 0} (xs : List X) (i : ℕ) (x : X) → set xs i x ≡ on_nth i (λ _. x) xs
set_on [] i x = refl
set_on (y ∷ xs) zero x = refl
set_on (y ∷ xs) (suc i) x = ap (λ ys. y ∷ ys) (set_on xs i x)

left_at : {X : Type 0} (xs ys : List X) (i : ℕ) (x : X) → slice_get xs i ≡ Some x → slice_get (xs ++ ys) i ≡ Some x
left_at [] ys i x at = none_some x at
left_at (z ∷ xs) ys zero x at = at
left_at (z ∷ xs) ys (suc i) x at = left_at xs ys i x at

right_at : {X : Type 0} (xs ys : List X) (k i : ℕ) (x : X) → k ≡ length xs + i → slice_get ys i ≡ Some x → slice_get (xs ++ ys) k ≡ Some x
right_at [] ys k i x e at = let f : k ≡ i = omega arith in ap (slice_get ys) f ∙ at
right_at (z ∷ xs) ys zero i x e at = absurd (omega arith)
right_at (z ∷ xs) ys (suc k) i x e at = right_at xs ys k i x (omega arith) at

left_on : {X : Type 0} (xs ys : List X) (i : ℕ) (x : X) → i < length xs → on_nth i (λ _. x) xs ++ ys ≡ on_nth i (λ _. x) (xs ++ ys)
left_on [] ys i x low = absurd (omega arith)
left_on (z ∷ xs) ys zero x low = refl
left_on (z ∷ xs) ys (suc i) x low = ap (λ zs. z ∷ zs) (left_on xs ys i x (omega arith))

right_on : {X : Type 0} (xs ys : List X) (k i : ℕ) (x : X) → k ≡ length xs + i → xs ++ on_nth i (λ _. x) ys ≡ on_nth k (λ _. x) (xs ++ ys)
right_on [] ys k i x e = let f : i ≡ k = omega arith in ap (λ i. on_nth i (λ _. x) ys) f
right_on (z ∷ xs) ys zero i x e = absurd (omega arith)
right_on (z ∷ xs) ys (suc k) i x e = ap (λ zs. z ∷ zs) (right_on xs ys k i x (omega arith))

pub stand_at : {X : Type 0} (stands : X → Contents → Type 0) (pool : Contents) (i : ℕ) (x : X) (xs : List X) → slice_get xs i ≡ Some x → AllStand stands pool xs → stands x pool
stand_at stands pool i x [] at st = none_some x at
stand_at stands pool zero x (z ∷ xs) at st = subst (λ z. stands z pool) (some_is z x at) st.0
stand_at stands pool (suc i) x (z ∷ xs) at st = stand_at stands pool i x xs at st.1

-- ---- the order

module _ {R : Type 0} (active : MemRowSet) (frozen : List MemRowSet) (rowsets : List R) where
  pub frozen_at : (at j : ℕ) (s : MemRowSet) → at ≡ 1 + j → slice_get frozen j ≡ Some s → slice_get (kept active frozen rowsets) at ≡ Some (inl s)
  frozen_at zero j s e is = absurd (omega arith)
  frozen_at (suc at) j s e is = let f : at ≡ j = omega arith in left_at (map inl frozen) (map inr rowsets) at (inl s) (map_at at inl s frozen (ap (slice_get frozen) f ∙ is))

  pub rowset_at : (at j : ℕ) (r : R) → at ≡ 1 + length frozen + j → slice_get rowsets j ≡ Some r → slice_get (kept active frozen rowsets) at ≡ Some (inr r)
  rowset_at zero j r e is = absurd (omega arith)
  rowset_at (suc at) j r e is = let f : MemRowSet → MemRowSet ⊎ R = λ s. inl s in let n = length-map frozen f in right_at (map inl frozen) (map inr rowsets) at j (inr r) (omega arith) (map_at j inr r rowsets is)

  pub active_on : (s : MemRowSet) → kept s frozen rowsets ≡ on_nth 0 (λ _. inl s) (kept active frozen rowsets)
  active_on s = refl

  pub frozen_on : (at j : ℕ) (s : MemRowSet) → at ≡ 1 + j → j < length frozen → kept active (on_nth j (λ _. s) frozen) rowsets ≡ on_nth at (λ _. inl s) (kept active frozen rowsets)
  frozen_on zero j s e low = absurd (omega arith)
  frozen_on (suc at) j s e low =
      let f : j ≡ at = omega arith in
      ap (λ j. kept active (on_nth j (λ _. s) frozen) rowsets) f
      ∙ ap (λ ss. inl active ∷ ss ++ map inr rowsets) (map-on_nth at inl s frozen)
      ∙ ap (λ ss. inl active ∷ ss) (left_on (map inl frozen) (map inr rowsets) at (inl s) (let f : MemRowSet → MemRowSet ⊎ R = λ s. inl s in let n = length-map frozen f in omega arith))

  pub rowset_on : (at j : ℕ) (r : R) → at ≡ 1 + length frozen + j → kept active frozen (on_nth j (λ _. r) rowsets) ≡ on_nth at (λ _. inr r) (kept active frozen rowsets)
  rowset_on zero j r e = absurd (omega arith)
  rowset_on (suc at) j r e =
      ap (λ rs. inl active ∷ map inl frozen ++ rs) (map-on_nth j inr r rowsets)
      ∙ ap (λ ss. inl active ∷ ss) (right_on (map inl frozen) (map inr rowsets) at j (inr r) (let f : MemRowSet → MemRowSet ⊎ R = λ s. inl s in let n = length-map frozen f in omega arith))

  pub count : length (kept active frozen rowsets) ≡ 1 + length frozen + length rowsets
  count = let a = length-append (map inl frozen) (map inr rowsets) in let f : MemRowSet → MemRowSet ⊎ R = λ s. inl s in let g : R → MemRowSet ⊎ R = λ r. inr r in let b = length-map frozen f in let c = length-map rowsets g in omega arith

  pub frozen_stand : (stands : R → Contents → Type 0) (pool : Contents) → AllStand (stands_by stands) pool (kept active frozen rowsets) → All (λ s. IsStore s pool) frozen
  frozen_stand stands pool st k d low = stand_at (stands_by stands) pool (suc k) (inl (get_or frozen k d)) (kept active frozen rowsets) (frozen_at (suc k) k (get_or frozen k d) (omega arith) (get_at frozen k d low)) st

  pub rowsets_stand : (stands : R → Contents → Type 0) (pool : Contents) → AllStand (stands_by stands) pool (kept active frozen rowsets) → All (λ r. stands r pool) rowsets
  rowsets_stand stands pool st k d low = stand_at (stands_by stands) pool (1 + length frozen + k) (inr (get_or rowsets k d)) (kept active frozen rowsets) (rowset_at (1 + length frozen + k) k (get_or rowsets k d) refl (get_at rowsets k d low)) st

pub all_on : {X : Type 0} (P : X → Type 0) (xs ys : List X) → xs ≡ ys → All P xs → All P ys
all_on P xs ys e h = subst (All P) e h

-- what the store at a place holds
pub stored_at : {X : Type 0} (read : X → Contents → Shelved) (pool : Contents) (i : ℕ) (x : X) (xs : List X) → slice_get xs i ≡ Some x → slice_get (map (λ (s : Shelved). s.store) (shelf_of read pool xs)) i ≡ Some (read x pool).store
stored_at read pool i x [] at = none_some x at
stored_at read pool zero x (z ∷ xs) at = ap (λ z. Some (read z pool).store) (some_is z x at)
stored_at read pool (suc i) x (z ∷ xs) at = stored_at read pool i x xs at

pub length-shelf : {X : Type 0} (read : X → Contents → Shelved) (pool : Contents) (xs : List X) → length (shelf_of read pool xs) ≡ length xs
length-shelf read pool xs = length-map xs (λ x. read x pool)
