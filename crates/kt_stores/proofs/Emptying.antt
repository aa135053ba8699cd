-- The frozen MemRowSets among all stores, and a store that comes behind them.
use Rattle.std.proofs.Common.{◌≡◌, ◌⊎◌, ℕ, ◌+◌, List, [], ◌∷◌, ◌++◌, map, true, sym, ap, subst, ◌∙◌, inl, inr, arith}
use Rattle.std.proofs.lemmas.List.{map-append}
use Rattle.std.proofs.lemmas.List.Sums.{sum_by-append, sum_by-cons}
use Rattle.kt_history.specs.Beside.{AllStand, OwnedBy, AreApart}
use Rattle.kt_history.proofs.Beside.{owned_left}
use Rattle.kt_memrowset.specs.declared.store.MemRowSet.{MemRowSet}
use Rattle.kt_memrowset.specs.Stores.{IsStore, Owns}
use Rattle.kt_pool.specs.Contents.{Contents}
use Rattle.kt_stores.specs.Shelf.{Shelved, AreClosed, AreExact, FirstIsOpen, cells_in}
use Rattle.kt_stores.specs.Parts.{stands_by, owns_by, shelf_of, AreKept}

pub cells-append : (xs ys : List Shelved) → cells_in (xs ++ ys) ≡ cells_in xs + cells_in ys
cells-append xs ys = sum_by-append (λ (s : Shelved). s.cells) xs ys

pub shelf-append : {X : Type 0} (read : X → Contents → Shelved) (pool : Contents) (xs ys : List X) → shelf_of read pool (xs ++ ys) ≡ shelf_of read pool xs ++ shelf_of read pool ys
shelf-append read pool xs ys = map-append (λ x. read x pool) xs ys

-- ---- the frozen ones among all

module _ {R : Type 0} (stands : R → Contents → Type 0) (owns : R → Contents → ℕ → Type 0) (read : R → Contents → Shelved) where
  owned_in : (pool : Contents) (frozen : List MemRowSet) (k : ℕ) → OwnedBy Owns pool frozen k → OwnedBy (owns_by owns) pool (map inl frozen) k
  owned_in pool [] k own = absurd own
  owned_in pool (s ∷ frozen) k own = elim own [ inl here ↦ inl here | inr more ↦ inr (owned_in pool frozen k more) ]

  pub frozen_in : (pool : Contents) (frozen : List MemRowSet) (zs : List (MemRowSet ⊎ R)) → AllStand (stands_by stands) pool (map inl frozen ++ zs) → AllStand IsStore pool frozen
  frozen_in pool [] zs h = tt
  frozen_in pool (s ∷ frozen) zs h = (h.0, frozen_in pool frozen zs h.1)

  pub frozen_apart : (pool : Contents) (frozen : List MemRowSet) (zs : List (MemRowSet ⊎ R)) → AreApart (owns_by owns) pool (map inl frozen ++ zs) → AreApart Owns pool frozen
  frozen_apart pool [] zs h = tt
  frozen_apart pool (s ∷ frozen) zs h = ((λ k here other. h.0 k here (owned_left (owns_by owns) pool (map inl frozen) zs k (owned_in pool frozen k other))), frozen_apart pool frozen zs h.1)

-- ---- a store more

module _ {X : Type 0} (stands : X → Contents → Type 0) (owns : X → Contents → ℕ → Type 0) (read : X → Contents → Shelved) (pool : Contents) (x : X) where
  stand_more : (xs : List X) → AllStand stands pool xs → stands x pool → AllStand stands pool (xs ++ x ∷ [])
  stand_more [] h s = (s, tt)
  stand_more (y ∷ xs) h s = (h.0, stand_more xs h.1 s)

  owned_more : (xs : List X) (k : ℕ) → ¬ owns x pool k → OwnedBy owns pool (xs ++ x ∷ []) k → OwnedBy owns pool xs k
  owned_more [] k bare own = elim own [ inl here ↦ absurd (bare here) | inr none ↦ none ]
  owned_more (y ∷ xs) k bare own = elim own [ inl here ↦ inl here | inr more ↦ inr (owned_more xs k bare more) ]

  apart_more : (xs : List X) → AreApart owns pool xs → ((k : ℕ) → ¬ owns x pool k) → AreApart owns pool (xs ++ x ∷ [])
  apart_more [] h bare = ((λ k own none. none), tt)
  apart_more (y ∷ xs) h bare = ((λ k here other. h.0 k here (owned_more xs k (bare k) other)), apart_more xs h.1 bare)

closed_more : (shelf : List Shelved) (s : Shelved) → AreClosed shelf → s.closed ≡ true → AreClosed (shelf ++ s ∷ [])
closed_more [] s h c = (c, tt)
closed_more (r ∷ shelf) s h c = (h.0, closed_more shelf s h.1 c)

first_more : (shelf : List Shelved) (s : Shelved) → FirstIsOpen shelf → s.closed ≡ true → FirstIsOpen (shelf ++ s ∷ [])
first_more [] s h c = absurd h
first_more (r ∷ shelf) s h c = (h.0, closed_more shelf s h.1 c)

exact_more : (shelf : List Shelved) (s : Shelved) → AreExact shelf → s.cells ≡ 0 → AreExact (shelf ++ s ∷ [])
exact_more [] s h c = ((λ none. c), tt)
exact_more (r ∷ shelf) s h c = (h.0, exact_more shelf s h.1 c)

pub kept_more : {X : Type 0} (stands : X → Contents → Type 0) (owns : X → Contents → ℕ → Type 0) (read : X → Contents → Shelved) (pool : Contents) (x : X) (xs : List X) → AreKept stands owns read xs pool
    → stands x pool → ((k : ℕ) → ¬ owns x pool k) → (read x pool).cells ≡ 0 → (read x pool).closed ≡ true → AreKept stands owns read (xs ++ x ∷ []) pool
kept_more stands owns read pool x xs h here bare none closed =
    let shelf = shelf-append read pool xs (x ∷ []) in
    let a = ap cells_in shelf ∙ cells-append (shelf_of read pool xs) (read x pool ∷ []) in
    let b = sum_by-cons (λ (s : Shelved). s.cells) (read x pool) [] in
    record {
      stand = stand_more stands owns read pool x xs h.stand here;
      apart = apart_more stands owns read pool x xs h.apart bare;
      counted = let was = h.counted in omega arith;
      first = subst FirstIsOpen (sym shelf) (first_more (shelf_of read pool xs) (read x pool) h.first closed);
      exact = subst AreExact (sym shelf) (exact_more (shelf_of read pool xs) (read x pool) h.exact none);
    }
