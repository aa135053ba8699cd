-- A store that gives cells back among others: these stand as they were.
use Rattle.std.proofs.Common.{◌≡◌, ℕ, zero, suc, ◌+◌, List, [], ◌∷◌, Some, sym, ap, subst, ◌∙◌, inl, inr, arith}
use Rattle.std.specs.Prelude.{slice_get}
use Rattle.kt_history.specs.Beside.{AllStand, OwnedBy, AreApart}
use Rattle.kt_history.proofs.Beside.{Stays, IsPlaced, all_stay}
use Rattle.kt_histlaws.specs.Histories.{on_nth}
use Rattle.kt_pool.specs.Contents.{Contents, at_cell, used}
use Rattle.kt_stores.specs.Shelf.{Shelved, FirstIsOpen, AreExact, cells_in}
use Rattle.kt_stores.specs.Parts.{shelf_of, AreKept}
use Rattle.kt_stores.proofs.Beside.{some_is, none_some, nth_owned, read_at, cells-on_nth, first-on_nth, exact-on_nth}

-- a store, which stands, owns no place but those of another, and no place of a third has changed
pub record HasShrunk {X : Type 0} (stands : X → Contents → Type 0) (owns : X → Contents → ℕ → Type 0) (x y : X) (old new : Contents) : Type 0 where
  pub here : stands y new
  pub owned : (k : ℕ) → owns y new k → owns x old k
  pub frame : (k : ℕ) → ¬ owns x old k → at_cell new k ≡ at_cell old k

-- store i is another one now, which has shrunk, and the others stand as they were
pub record OneShrank {X : Type 0} (stands : X → Contents → Type 0) (owns : X → Contents → ℕ → Type 0) (read : X → Contents → Shelved) (old new : Contents) (y : X) (i : ℕ) (xs : List X) : Type 0 where
  pub stand : AllStand stands new (on_nth i (λ _. y) xs)
  pub apart : AreApart owns new (on_nth i (λ _. y) xs)
  pub shelf : shelf_of read new (on_nth i (λ _. y) xs) ≡ on_nth i (λ _. read y new) (shelf_of read old xs)
  pub owned : (k : ℕ) → OwnedBy owns new (on_nth i (λ _. y) xs) k → OwnedBy owns old xs k

module _ {X : Type 0} (stands : X → Contents → Type 0) (owns : X → Contents → ℕ → Type 0) (read : X → Contents → Shelved) (stays : Stays stands owns read) (placed : IsPlaced stands owns) where
  module _ (old new : Contents) (x y : X) (shrunk : HasShrunk stands owns x y old new) where
    pub one_shrank : (i : ℕ) (xs : List X) → slice_get xs i ≡ Some x → AllStand stands old xs → AreApart owns old xs → OneShrank stands owns read old new y i xs
    one_shrank i [] at st apart = none_some x at
    one_shrank zero (z ∷ xs) at st apart =
        let same = some_is z x at in
        let mine : (k : ℕ) → owns x old k → ¬ OwnedBy owns old xs k = subst (λ z. (k : ℕ) → owns z old k → ¬ OwnedBy owns old xs k) same apart.0 in
        let more = all_stay stands owns read stays old new xs st.1 (λ k own. shrunk.frame k (λ is. mine k is own)) in
        record {
          stand = (shrunk.here, more.stand);
          apart = ((λ k own other. mine k (shrunk.owned k own) (more.back k other)), more.apart apart.1);
          shelf = ap (λ shelf. read y new ∷ shelf) more.same;
          owned = λ k own. elim own [
            | inl is ↦ inl (subst (λ z. owns z old k) (sym same) (shrunk.owned k is))
            | inr other ↦ inr (more.back k other)
          ];
        }
    one_shrank (suc i) (z ∷ xs) at st apart =
        let more = one_shrank i xs at st.1 apart.1 in
        let kept = λ (k : ℕ) (own : owns z old k). shrunk.frame k (λ is. apart.0 k own (nth_owned stands owns read stays placed old x i xs k at is)) in
        let here = stays z old new st.0 kept in
        record {
          stand = (here.0, more.stand);
          apart = ((λ k own other. apart.0 k ((here.2 k).0 own) (more.owned k other)), more.apart);
          shelf = ap (λ s. s ∷ shelf_of read new (on_nth i (λ _. y) xs)) here.1 ∙ ap (λ shelf. read z old ∷ shelf) more.shelf;
          owned = λ k own. elim own [
            | inl is ↦ inl ((here.2 k).0 is)
            | inr other ↦ inr (more.owned k other)
          ];
        }

  -- stores are kept where one of them has shrunk
  pub kept_shrunk : (old new : Contents) (x y : X) (i : ℕ) (xs : List X) → AreKept stands owns read xs old → slice_get xs i ≡ Some x → HasShrunk stands owns x y old new
      → used new + (read x old).cells ≡ used old + (read y new).cells → (read y new).closed ≡ (read x old).closed → ((read y new).store ≡ [] → (read y new).cells ≡ 0)
      → AreKept stands owns read (on_nth i (λ _. y) xs) new × (shelf_of read new (on_nth i (λ _. y) xs) ≡ on_nth i (λ _. read y new) (shelf_of read old xs))
  kept_shrunk old new x y i xs kept at shrunk fewer closed exact =
      let one = one_shrank old new x y shrunk i xs at kept.stand kept.apart in
      let here = read_at read old i x xs at in
      let cells = cells-on_nth i (read x old) (read y new) (shelf_of read old xs) here in
      let total = ap cells_in one.shelf in (
        record {
          stand = one.stand;
          apart = one.apart;
          counted = let was = kept.counted in omega arith;
          first = subst FirstIsOpen (sym one.shelf) (first-on_nth i (read x old) (read y new) (shelf_of read old xs) here closed kept.first);
          exact = subst AreExact (sym one.shelf) (exact-on_nth i (read y new) (shelf_of read old xs) exact kept.exact);
        },
        one.shelf,
      )
