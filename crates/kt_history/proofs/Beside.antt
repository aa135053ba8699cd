-- Stores beside each other in a pool: where no place of theirs has changed they stand as they were, and so do those of two lists of them.
use Rattle.std.proofs.Common.{◌≡◌, ◌⊎◌, ◌↔◌, ℕ, List, [], ◌∷◌, ◌++◌, map, Option, Some, None, is_some, refl, true, ap, ◌∙◌, inl, inr}
use Rattle.kt_pool.specs.Contents.{Contents, Stands, at_cell}
use Rattle.kt_history.specs.Beside.{AllStand, OwnedBy, AreApart}

-- a store stands as it was where no place of its own has changed, and what is read of it is the same
abbrev pub Stays : {X V : Type 0} → (X → Contents → Type 0) → (X → Contents → ℕ → Type 0) → (X → Contents → V) → Type 0
Stays {X} stands owns read = (x : X) (old new : Contents) → stands x old → ((k : ℕ) → owns x old k → at_cell new k ≡ at_cell old k) → stands x new × (read x new ≡ read x old) × ((k : ℕ) → owns x new k ↔ owns x old k)

-- it owns no vacant cell
abbrev pub IsPlaced : {X : Type 0} → (X → Contents → Type 0) → (X → Contents → ℕ → Type 0) → Type 0
IsPlaced {X} stands owns = (x : X) (pool : Contents) (k : ℕ) → stands x pool → owns x pool k → Stands pool k

-- these stores stand at both, with the same rows in the same places
pub record AllStay {X V : Type 0} (stands : X → Contents → Type 0) (owns : X → Contents → ℕ → Type 0) (read : X → Contents → V) (old new : Contents) (xs : List X) : Type 0 where
  pub stand : AllStand stands new xs
  pub same : map (λ x. read x new) xs ≡ map (λ x. read x old) xs
  pub back : (k : ℕ) → OwnedBy owns new xs k → OwnedBy owns old xs k
  pub on : (k : ℕ) → OwnedBy owns old xs k → OwnedBy owns new xs k
  pub apart : AreApart owns old xs → AreApart owns new xs

-- at a vacant cell no place stands
pub vacant : (pool : Contents) (k : ℕ) → at_cell pool k ≡ None → Stands pool k → ⊥
vacant pool k none there = by (at_cell pool k) none there
  where
    by : (o : Option (List ℕ)) → o ≡ None → is_some o ≡ true → ⊥
    by None none there = cc
    by (Some bytes) none there = cc

module _ {X : Type 0} (stands : X → Contents → Type 0) (owns : X → Contents → ℕ → Type 0) (placed : IsPlaced stands owns) where
  -- what stores own stands
  pub all_placed : (pool : Contents) (xs : List X) (k : ℕ) → AllStand stands pool xs → OwnedBy owns pool xs k → Stands pool k
  all_placed pool [] k st own = absurd own
  all_placed pool (x ∷ xs) k st own = elim own [ inl mine ↦ placed x pool k st.0 mine | inr more ↦ all_placed pool xs k st.1 more ]

module _ {X V : Type 0} (stands : X → Contents → Type 0) (owns : X → Contents → ℕ → Type 0) (read : X → Contents → V) (stays : Stays stands owns read) where
  -- where no place of theirs has changed, they stand as they were
  pub all_stay : (old new : Contents) (xs : List X) → AllStand stands old xs → ((k : ℕ) → OwnedBy owns old xs k → at_cell new k ≡ at_cell old k) → AllStay stands owns read old new xs
  all_stay old new [] st same = record { stand = tt; same = refl; back = λ k own. own; on = λ k own. own; apart = λ apart. tt }
  all_stay old new (x ∷ xs) st same =
      let here = stays x old new st.0 (λ k own. same k (inl own)) in
      let more = all_stay old new xs st.1 (λ k own. same k (inr own)) in
      record {
        stand = (here.0, more.stand);
        same = ap (λ s. s ∷ map (λ x. read x new) xs) here.1 ∙ ap (λ ss. read x old ∷ ss) more.same;
        back = λ k own. elim own [ inl mine ↦ inl ((here.2 k).0 mine) | inr other ↦ inr (more.back k other) ];
        on = λ k own. elim own [ inl mine ↦ inl ((here.2 k).1 mine) | inr other ↦ inr (more.on k other) ];
        apart = λ apart. ((λ k mine other. apart.0 k ((here.2 k).0 mine) (more.back k other)), more.apart apart.1);
      }

-- ---- lists of stores, cut in two

module _ {X : Type 0} (stands : X → Contents → Type 0) (pool : Contents) where
  pub stand_left : (xs ys : List X) → AllStand stands pool (xs ++ ys) → AllStand stands pool xs
  stand_left [] ys h = tt
  stand_left (x ∷ xs) ys h = (h.0, stand_left xs ys h.1)

  pub stand_right : (xs ys : List X) → AllStand stands pool (xs ++ ys) → AllStand stands pool ys
  stand_right [] ys h = h
  stand_right (x ∷ xs) ys h = stand_right xs ys h.1

  pub stand_both : (xs ys : List X) → AllStand stands pool xs → AllStand stands pool ys → AllStand stands pool (xs ++ ys)
  stand_both [] ys h k = k
  stand_both (x ∷ xs) ys h k = (h.0, stand_both xs ys h.1 k)

module _ {X : Type 0} (owns : X → Contents → ℕ → Type 0) (pool : Contents) where
  pub owned_left : (xs ys : List X) (k : ℕ) → OwnedBy owns pool xs k → OwnedBy owns pool (xs ++ ys) k
  owned_left [] ys k own = absurd own
  owned_left (x ∷ xs) ys k own = elim own [ inl here ↦ inl here | inr more ↦ inr (owned_left xs ys k more) ]

  pub owned_right : (xs ys : List X) (k : ℕ) → OwnedBy owns pool ys k → OwnedBy owns pool (xs ++ ys) k
  owned_right [] ys k own = own
  owned_right (x ∷ xs) ys k own = inr (owned_right xs ys k own)

  pub owned_either : (xs ys : List X) (k : ℕ) → OwnedBy owns pool (xs ++ ys) k → OwnedBy owns pool xs k ⊎ OwnedBy owns pool ys k
  owned_either [] ys k own = inr own
  owned_either (x ∷ xs) ys k own = elim own [
    | inl here ↦ inl (inl here)
    | inr more ↦ elim (owned_either xs ys k more) [ inl left ↦ inl (inr left) | inr right ↦ inr right ]
  ]

  pub apart_left : (xs ys : List X) → AreApart owns pool (xs ++ ys) → AreApart owns pool xs
  apart_left [] ys h = tt
  apart_left (x ∷ xs) ys h = ((λ k here other. h.0 k here (owned_left xs ys k other)), apart_left xs ys h.1)

  pub apart_right : (xs ys : List X) → AreApart owns pool (xs ++ ys) → AreApart owns pool ys
  apart_right [] ys h = h
  apart_right (x ∷ xs) ys h = apart_right xs ys h.1

  pub apart_between : (xs ys : List X) (k : ℕ) → AreApart owns pool (xs ++ ys) → OwnedBy owns pool xs k → ¬ OwnedBy owns pool ys k
  apart_between [] ys k h own = absurd own
  apart_between (x ∷ xs) ys k h own = elim own [ inl here ↦ λ other. h.0 k here (owned_right xs ys k other) | inr more ↦ apart_between xs ys k h.1 more ]

  pub apart_both : (xs ys : List X) → AreApart owns pool xs → AreApart owns pool ys → ((k : ℕ) → OwnedBy owns pool xs k → ¬ OwnedBy owns pool ys k) → AreApart owns pool (xs ++ ys)
  apart_both [] ys h g between = g
  apart_both (x ∷ xs) ys h g between = (
    (λ k here other. elim (owned_either xs ys k other) [ inl left ↦ h.0 k here left | inr right ↦ between k (inl here) right ]),
    apart_both xs ys h.1 g (λ k own. between k (inr own)),
  )
