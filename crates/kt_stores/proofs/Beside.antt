-- Stores beside each other in a pool: where one changes, the others stand as they were.
use Rattle.std.proofs.Common.{◌≡◌, ◌⊎◌, ℕ, zero, suc, ◌+◌, List, [], ◌∷◌, map, Some, None, refl, sym, ap, subst, ◌∙◌, inl, inr, arith}
use Rattle.std.specs.Prelude.{slice_get}
use Rattle.std.proofs.lemmas.List.Sums.{sum_by-cons}
use Rattle.kt_history.specs.Beside.{AllStand, OwnedBy, AreApart}
use Rattle.kt_history.proofs.Beside.{Stays, IsPlaced, vacant, all_placed, all_stay}
use Rattle.kt_histlaws.specs.Histories.{on_nth}
use Rattle.kt_pool.specs.Contents.{Contents, at_cell, used}
use Rattle.kt_stores.specs.Shelf.{Shelved, FirstIsOpen, AreClosed, AreExact, cells_in}
use Rattle.kt_stores.specs.Parts.{shelf_of, AreKept, HasGrown}

-- store i is another one now, which has grown, and the others stand as they were
pub record OneGrew {X : Type 0} (stands : X → Contents → Type 0) (owns : X → Contents → ℕ → Type 0) (read : X → Contents → Shelved) (old new : Contents) (y : X) (i : ℕ) (xs : List X) : Type 0 where
  pub stand : AllStand stands new (on_nth i (λ _. y) xs)
  pub apart : AreApart owns new (on_nth i (λ _. y) xs)
  pub shelf : shelf_of read new (on_nth i (λ _. y) xs) ≡ on_nth i (λ _. read y new) (shelf_of read old xs)
  pub owned : (k : ℕ) → OwnedBy owns new (on_nth i (λ _. y) xs) k → OwnedBy owns old xs k ⊎ (at_cell old k ≡ None)

pub some_is : {X : Type 0} (x y : X) → Some x ≡ Some y → x ≡ y
some_is x y e = cc

pub none_some : {X : Type 0} {G : Type 0} (y : X) → None ≡ Some y → G
none_some y e = cc

module _ {X : Type 0} (stands : X → Contents → Type 0) (owns : X → Contents → ℕ → Type 0) (read : X → Contents → Shelved) (stays : Stays stands owns read) (placed : IsPlaced stands owns) where
  pub nth_owned : (pool : Contents) (x : X) (i : ℕ) (xs : List X) (k : ℕ) → slice_get xs i ≡ Some x → owns x pool k → OwnedBy owns pool xs k
  nth_owned pool x i [] k at own = none_some x at
  nth_owned pool x zero (z ∷ xs) k at own = inl (subst (λ z. owns z pool k) (sym (some_is z x at)) own)
  nth_owned pool x (suc i) (z ∷ xs) k at own = inr (nth_owned pool x i xs k at own)

  module _ (old new : Contents) (x y : X) (grew : HasGrown stands owns x y old new) where
    -- a place of stores that own none of the first one's has not changed
    others_same : (xs : List X) → AllStand stands old xs → ((k : ℕ) → owns x old k → ¬ OwnedBy owns old xs k) → (k : ℕ) → OwnedBy owns old xs k → at_cell new k ≡ at_cell old k
    others_same xs st apart k own = grew.frame k (λ mine. elim (grew.grows k mine) [ inl was ↦ apart k was own | inr none ↦ vacant old k none (all_placed stands owns placed old xs k st own) ])

    pub one_grew : (i : ℕ) (xs : List X) → slice_get xs i ≡ Some x → AllStand stands old xs → AreApart owns old xs → OneGrew stands owns read old new y i xs
    one_grew i [] at st apart = none_some x at
    one_grew zero (z ∷ xs) at st apart =
        let same = some_is z x at in
        let mine : (k : ℕ) → owns x old k → ¬ OwnedBy owns old xs k = subst (λ z. (k : ℕ) → owns z old k → ¬ OwnedBy owns old xs k) same apart.0 in
        let more = all_stay stands owns read stays old new xs st.1 (others_same xs st.1 mine) in
        record {
          stand = (grew.here, more.stand);
          apart = (
            (λ k own other. elim (grew.grows k own) [ inl was ↦ mine k was (more.back k other) | inr none ↦ vacant old k none (all_placed stands owns placed old xs k st.1 (more.back k other)) ]),
            more.apart apart.1,
          );
          shelf = ap (λ shelf. read y new ∷ shelf) more.same;
          owned = λ k own. elim own [
            | inl is ↦ elim (grew.grows k is) [ inl was ↦ inl (inl (subst (λ z. owns z old k) (sym same) was)) | inr none ↦ inr none ]
            | inr other ↦ inl (inr (more.back k other))
          ];
        }
    one_grew (suc i) (z ∷ xs) at st apart =
        let more = one_grew i xs at st.1 apart.1 in
        let kept = λ (k : ℕ) (own : owns z old k). grew.frame k (λ is. elim (grew.grows k is) [ inl was ↦ apart.0 k own (nth_owned old x i xs k at was) | inr none ↦ vacant old k none (placed z old k st.0 own) ]) in
        let here = stays z old new st.0 kept in
        record {
          stand = (here.0, more.stand);
          apart = (
            (λ k own other. elim (more.owned k other) [ inl was ↦ apart.0 k ((here.2 k).0 own) was | inr none ↦ vacant old k none (placed z old k st.0 ((here.2 k).0 own)) ]),
            more.apart,
          );
          shelf = ap (λ s. s ∷ shelf_of read new (on_nth i (λ _. y) xs)) here.1 ∙ ap (λ shelf. read z old ∷ shelf) more.shelf;
          owned = λ k own. elim own [
            | inl is ↦ inl (inl ((here.2 k).0 is))
            | inr other ↦ elim (more.owned k other) [ inl was ↦ inl (inr was) | inr none ↦ inr none ]
          ];
        }

-- ---- the shelf

pub read_at : {X : Type 0} (read : X → Contents → Shelved) (pool : Contents) (i : ℕ) (x : X) (xs : List X) → slice_get xs i ≡ Some x → slice_get (shelf_of read pool xs) i ≡ Some (read x pool)
read_at read pool i x [] at = none_some x at
read_at read pool zero x (z ∷ xs) at = ap (λ z. Some (read z pool)) (some_is z x at)
read_at read pool (suc i) x (z ∷ xs) at = read_at read pool i x xs at

pub cells-on_nth : (i : ℕ) (r s : Shelved) (shelf : List Shelved) → slice_get shelf i ≡ Some r → cells_in (on_nth i (λ _. s) shelf) + r.cells ≡ cells_in shelf + s.cells
cells-on_nth i r s [] at = none_some r at
cells-on_nth zero r s (x ∷ shelf) at =
    let e = ap (λ (s : Shelved). s.cells) (some_is x r at) in
    let a = sum_by-cons (λ (s : Shelved). s.cells) s shelf in
    let b = sum_by-cons (λ (s : Shelved). s.cells) x shelf in omega arith
cells-on_nth (suc i) r s (x ∷ shelf) at =
    let more = cells-on_nth i r s shelf at in
    let a = sum_by-cons (λ (s : Shelved). s.cells) x (on_nth i (λ _. s) shelf) in
    let b = sum_by-cons (λ (s : Shelved). s.cells) x shelf in omega arith

closed-on_nth : (i : ℕ) (r s : Shelved) (shelf : List Shelved) → slice_get shelf i ≡ Some r → s.closed ≡ r.closed → AreClosed shelf → AreClosed (on_nth i (λ _. s) shelf)
closed-on_nth i r s [] at e h = none_some r at
closed-on_nth zero r s (x ∷ shelf) at e h = (e ∙ ap (λ (s : Shelved). s.closed) (sym (some_is x r at)) ∙ h.0, h.1)
closed-on_nth (suc i) r s (x ∷ shelf) at e h = (h.0, closed-on_nth i r s shelf at e h.1)

pub first-on_nth : (i : ℕ) (r s : Shelved) (shelf : List Shelved) → slice_get shelf i ≡ Some r → s.closed ≡ r.closed → FirstIsOpen shelf → FirstIsOpen (on_nth i (λ _. s) shelf)
first-on_nth i r s [] at e h = none_some r at
first-on_nth zero r s (x ∷ shelf) at e h = (e ∙ ap (λ (s : Shelved). s.closed) (sym (some_is x r at)) ∙ h.0, h.1)
first-on_nth (suc i) r s (x ∷ shelf) at e h = (h.0, closed-on_nth i r s shelf at e h.1)

pub exact-on_nth : (i : ℕ) (s : Shelved) (shelf : List Shelved) → (s.store ≡ [] → s.cells ≡ 0) → AreExact shelf → AreExact (on_nth i (λ _. s) shelf)
exact-on_nth i s [] e h = tt
exact-on_nth zero s (x ∷ shelf) e h = (e, h.1)
exact-on_nth (suc i) s (x ∷ shelf) e h = (h.0, exact-on_nth i s shelf e h.1)

pub exact_at : (i : ℕ) (r : Shelved) (shelf : List Shelved) → slice_get shelf i ≡ Some r → AreExact shelf → r.store ≡ [] → r.cells ≡ 0
exact_at i r [] at h = none_some r at
exact_at zero r (x ∷ shelf) at h = subst (λ (s : Shelved). s.store ≡ [] → s.cells ≡ 0) (some_is x r at) h.0
exact_at (suc i) r (x ∷ shelf) at h = exact_at i r shelf at h.1

-- a change of the element at a place, as a function of it
pub on_nth_at : {X : Type 0} (i : ℕ) (f : X → X) (x y : X) (xs : List X) → slice_get xs i ≡ Some x → y ≡ f x → on_nth i (λ _. y) xs ≡ on_nth i f xs
on_nth_at i f x y [] at e = refl
on_nth_at zero f x y (z ∷ xs) at e = ap (λ y. y ∷ xs) (e ∙ ap f (sym (some_is z x at)))
on_nth_at (suc i) f x y (z ∷ xs) at e = ap (λ ys. z ∷ ys) (on_nth_at i f x y xs at e)

pub on_nth_same : {X : Type 0} (i : ℕ) (x : X) (xs : List X) → slice_get xs i ≡ Some x → on_nth i (λ _. x) xs ≡ xs
on_nth_same i x [] at = refl
on_nth_same zero x (z ∷ xs) at = ap (λ z. z ∷ xs) (sym (some_is z x at))
on_nth_same (suc i) x (z ∷ xs) at = ap (λ ys. z ∷ ys) (on_nth_same i x xs at)

pub map-on_nth : {X Y : Type 0} (i : ℕ) (f : X → Y) (x : X) (xs : List X) → map f (on_nth i (λ _. x) xs) ≡ on_nth i (λ _. f x) (map f xs)
map-on_nth i f x [] = refl
map-on_nth zero f x (z ∷ xs) = refl
map-on_nth (suc i) f x (z ∷ xs) = ap (λ ys. f z ∷ ys) (map-on_nth i f x xs)

pub map_at : {X Y : Type 0} (i : ℕ) (f : X → Y) (x : X) (xs : List X) → slice_get xs i ≡ Some x → slice_get (map f xs) i ≡ Some (f x)
map_at i f x [] at = none_some x at
map_at zero f x (z ∷ xs) at = ap (λ z. Some (f z)) (some_is z x at)
map_at (suc i) f x (z ∷ xs) at = map_at i f x xs at

module _ {X : Type 0} (stands : X → Contents → Type 0) (owns : X → Contents → ℕ → Type 0) (read : X → Contents → Shelved) (stays : Stays stands owns read) (placed : IsPlaced stands owns) where
  -- stores are kept where the pool's places are the same
  pub kept_same : (old new : Contents) (xs : List X) → AreKept stands owns read xs old → new.places ≡ old.places → AreKept stands owns read xs new × (shelf_of read new xs ≡ shelf_of read old xs)
  kept_same old new xs kept same =
      let still = all_stay stands owns read stays old new xs kept.stand (λ k own. ap (λ places. at_cell (record { places = places; reserved = 0 }) k) same) in (
        record {
          stand = still.stand;
          apart = still.apart kept.apart;
          counted = ap (λ places. used (record { places = places; reserved = 0 })) same ∙ kept.counted ∙ ap cells_in (sym still.same);
          first = subst FirstIsOpen (sym still.same) kept.first;
          exact = subst AreExact (sym still.same) kept.exact;
        },
        still.same,
      )

  -- and where one of them has grown
  pub kept_grown : (old new : Contents) (x y : X) (i : ℕ) (xs : List X) → AreKept stands owns read xs old → slice_get xs i ≡ Some x → HasGrown stands owns x y old new
      → (read y new).cells + used old ≡ (read x old).cells + used new → (read y new).closed ≡ (read x old).closed → ((read y new).store ≡ [] → (read y new).cells ≡ 0)
      → AreKept stands owns read (on_nth i (λ _. y) xs) new × (shelf_of read new (on_nth i (λ _. y) xs) ≡ on_nth i (λ _. read y new) (shelf_of read old xs))
  kept_grown old new x y i xs kept at grew more closed exact =
      let one = one_grew stands owns read stays placed old new x y grew i xs at kept.stand kept.apart in
      let here = read_at read old i x xs at in
      let cells = cells-on_nth i (read x old) (read y new) (shelf_of read old xs) here in
      let total = ap cells_in one.shelf in (
        record {
          stand = one.stand;
          apart = one.apart;
          counted = let was = kept.counted in omega arith;
          first = subst FirstIsOpen (sym one.shelf) (first-on_nth i (read x old) (read y new) (shelf_of read old xs) here closed kept.first);
          exact = subst AreExact (sym one.shelf) (exact-on_nth i (read y new) (shelf_of read old xs) exact kept.exact);
        },
        one.shelf,
      )
