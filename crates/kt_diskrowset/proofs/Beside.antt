-- DeltaMemStores beside each other in a pool: where one changes, the others stand as they were.
use Rattle.std.proofs.Common.{◌≡◌, ◌⊎◌, ◌+◌, ℕ, List, [], ◌∷◌, ◌++◌, append_assoc, Option, Some, None, is_some, refl, true, sym, ap, ◌∙◌, inl, inr, arith}
use Rattle.kt_pool.specs.Contents.{Contents, Stands, at_cell}
use Rattle.kt_dms.specs.declared.store.DeltaMem.{DeltaMem}
use Rattle.kt_dms.specs.Stores as dms
use Rattle.kt_history.specs.declared.changes.Delta.{Delta}
use Rattle.kt_dms.specs.Stores.{number_of, deltas_of, steps_for}
use Rattle.kt_dms.proofs.Frames.{is_still, deltas_still, had_still, owns_back, owns_on, owned_stands}
use Rattle.kt_diskrowset.specs.Jobs.{AreKept}
use Rattle.kt_diskrowset.specs.Mems.{AllStand, steps_in_mems, told_by, OwnedBy, AreApart, cells_in}

pub vacant : (pool : Contents) (k : ℕ) → at_cell pool k ≡ None → Stands pool k → ⊥
vacant pool k none there = by (at_cell pool k) none there
  where
    by : (o : Option (List ℕ)) → o ≡ None → is_some o ≡ true → ⊥
    by None none there = cc
    by (Some bytes) none there = cc

-- ---- a last one behind others

module _ (pool : Contents) where
  pub stand_front : (xs ys : List DeltaMem) → AllStand pool (xs ++ ys) → AllStand pool xs
  stand_front [] ys h = tt
  stand_front (x ∷ xs) ys h = (h.0, stand_front xs ys h.1)

  pub stand_back : (xs ys : List DeltaMem) → AllStand pool (xs ++ ys) → AllStand pool ys
  stand_back [] ys h = h
  stand_back (x ∷ xs) ys h = stand_back xs ys h.1

  pub last_stands : (xs : List DeltaMem) (m : DeltaMem) → AllStand pool (xs ++ m ∷ []) → dms.IsStore m pool
  last_stands [] m h = h.0
  last_stands (x ∷ xs) m h = last_stands xs m h.1

  pub stand_both : (xs ys : List DeltaMem) → AllStand pool xs → AllStand pool ys → AllStand pool (xs ++ ys)
  stand_both [] ys h k = k
  stand_both (x ∷ xs) ys h k = (h.0, stand_both xs ys h.1 k)

  pub owned_front : (xs ys : List DeltaMem) (k : ℕ) → OwnedBy pool xs k → OwnedBy pool (xs ++ ys) k
  owned_front [] ys k own = absurd own
  owned_front (x ∷ xs) ys k own = elim own [ inl here ↦ inl here | inr more ↦ inr (owned_front xs ys k more) ]

  pub owned_back : (xs ys : List DeltaMem) (k : ℕ) → OwnedBy pool ys k → OwnedBy pool (xs ++ ys) k
  owned_back [] ys k own = own
  owned_back (x ∷ xs) ys k own = inr (owned_back xs ys k own)

  pub owned_either : (xs ys : List DeltaMem) (k : ℕ) → OwnedBy pool (xs ++ ys) k → OwnedBy pool xs k ⊎ OwnedBy pool ys k
  owned_either [] ys k own = inr own
  owned_either (x ∷ xs) ys k own = elim own [
    | inl here ↦ inl (inl here)
    | inr more ↦ elim (owned_either xs ys k more) [ inl front ↦ inl (inr front) | inr back ↦ inr back ]
  ]

  pub apart_front : (xs ys : List DeltaMem) → AreApart pool (xs ++ ys) → AreApart pool xs
  apart_front [] ys h = tt
  apart_front (x ∷ xs) ys h = ((λ k here other. h.0 k here (owned_front xs ys k other)), apart_front xs ys h.1)

  pub apart_back : (xs ys : List DeltaMem) → AreApart pool (xs ++ ys) → AreApart pool ys
  apart_back [] ys h = h
  apart_back (x ∷ xs) ys h = apart_back xs ys h.1

  pub apart_between : (xs ys : List DeltaMem) (k : ℕ) → AreApart pool (xs ++ ys) → OwnedBy pool xs k → ¬ OwnedBy pool ys k
  apart_between [] ys k h own = absurd own
  apart_between (x ∷ xs) ys k h own = elim own [ inl here ↦ λ other. h.0 k here (owned_back xs ys k other) | inr more ↦ apart_between xs ys k h.1 more ]

  pub apart_both : (xs ys : List DeltaMem) → AreApart pool xs → AreApart pool ys → ((k : ℕ) → OwnedBy pool xs k → ¬ OwnedBy pool ys k) → AreApart pool (xs ++ ys)
  apart_both [] ys h g between = g
  apart_both (x ∷ xs) ys h g between = (
    (λ k here other. elim (owned_either xs ys k other) [ inl front ↦ h.0 k here front | inr back ↦ between k (inl here) back ]),
    apart_both xs ys h.1 g (λ k own. between k (inr own)),
  )

  pub cells-append : (xs ys : List DeltaMem) → cells_in pool (xs ++ ys) ≡ cells_in pool xs + cells_in pool ys
  cells-append [] ys = omega arith
  cells-append (x ∷ xs) ys = let e = cells-append xs ys in omega arith

  pub steps-append : (n : ℕ) (xs ys : List DeltaMem) → steps_in_mems pool n (xs ++ ys) ≡ steps_in_mems pool n xs ++ steps_in_mems pool n ys
  steps-append n [] ys = refl
  steps-append n (x ∷ xs) ys = ap (λ steps. steps_for n (deltas_of x pool) ++ steps) (steps-append n xs ys) ∙ sym (append_assoc (steps_for n (deltas_of x pool)) (steps_in_mems pool n xs) (steps_in_mems pool n ys))

  -- what they own stands
  pub all_placed : (xs : List DeltaMem) (k : ℕ) → AllStand pool xs → OwnedBy pool xs k → Stands pool k
  all_placed [] k st own = absurd own
  all_placed (x ∷ xs) k st own = elim own [ inl mine ↦ owned_stands x pool k st.0 mine | inr more ↦ all_placed xs k st.1 more ]

-- those that have their changes as before tell the same
pub told_same : (old new : Contents) (xs : List DeltaMem) → AreKept old new xs → told_by new xs ≡ told_by old xs
told_same old new [] h = refl
told_same old new (x ∷ xs) h = ap (λ (deltas : List Delta). (number_of x, deltas) ∷ told_by new xs) h.0 ∙ ap (λ (told : List (ℕ × List Delta)). (number_of x, deltas_of x old) ∷ told) (told_same old new xs h.1)

-- ---- where no place of theirs has changed

pub record AllStay (old new : Contents) (xs : List DeltaMem) : Type 0 where
  pub stand : AllStand new xs
  pub steps : (n : ℕ) → steps_in_mems new n xs ≡ steps_in_mems old n xs
  pub cells : cells_in new xs ≡ cells_in old xs
  pub back : (k : ℕ) → OwnedBy new xs k → OwnedBy old xs k
  pub on : (k : ℕ) → OwnedBy old xs k → OwnedBy new xs k
  pub apart : AreApart old xs → AreApart new xs
  pub kept : AreKept old new xs

pub all_stay : (old new : Contents) (xs : List DeltaMem) → AllStand old xs → ((k : ℕ) → OwnedBy old xs k → at_cell new k ≡ at_cell old k) → AllStay old new xs
all_stay old new [] st same = record { stand = tt; steps = λ n. refl; cells = refl; back = λ k own. own; on = λ k own. own; apart = λ apart. tt; kept = tt }
all_stay old new (x ∷ xs) st same =
    let mine : (k : ℕ) → dms.Owns x old k → at_cell new k ≡ at_cell old k = λ k own. same k (inl own) in
    let more = all_stay old new xs st.1 (λ k own. same k (inr own)) in
    record {
      stand = (is_still x old new st.0 mine, more.stand);
      steps = λ n. ap (λ deltas. steps_for n deltas ++ steps_in_mems new n xs) (deltas_still x old new st.0 mine) ∙ ap (λ steps. steps_for n (deltas_of x old) ++ steps) (more.steps n);
      cells = let a = had_still x old new st.0 mine in let b = more.cells in omega arith;
      back = λ k own. elim own [ inl is ↦ inl (owns_back x old new st.0 mine k is) | inr other ↦ inr (more.back k other) ];
      on = λ k own. elim own [ inl is ↦ inl (owns_on x old new st.0 mine k is) | inr other ↦ inr (more.on k other) ];
      apart = λ apart. ((λ k own other. apart.0 k (owns_back x old new st.0 mine k own) (more.back k other)), more.apart apart.1);
      kept = (deltas_still x old new st.0 mine, more.kept);
    }

-- ---- where the last one has grown

-- a store, which stands, owns places that were vacant beside its own, and no place of another has changed
pub record HasGrown (s t : DeltaMem) (old new : Contents) : Type 0 where
  pub here : dms.IsStore t new
  pub keeps : (k : ℕ) → dms.Owns s old k → dms.Owns t new k
  pub grows : (k : ℕ) → dms.Owns t new k → dms.Owns s old k ⊎ (at_cell old k ≡ None)
  pub frame : (k : ℕ) → ¬ dms.Owns t new k → at_cell new k ≡ at_cell old k

pub record LastGrew (xs : List DeltaMem) (s t : DeltaMem) (old new : Contents) : Type 0 where
  pub stand : AllStand new (xs ++ t ∷ [])
  pub apart : AreApart new (xs ++ t ∷ [])
  pub others : AllStay old new xs
  pub keeps : (k : ℕ) → OwnedBy old (xs ++ s ∷ []) k → OwnedBy new (xs ++ t ∷ []) k
  pub grows : (k : ℕ) → OwnedBy new (xs ++ t ∷ []) k → OwnedBy old (xs ++ s ∷ []) k ⊎ (at_cell old k ≡ None)
  pub frame : (k : ℕ) → ¬ OwnedBy new (xs ++ t ∷ []) k → at_cell new k ≡ at_cell old k

module _ (xs : List DeltaMem) (s t : DeltaMem) (old new : Contents) (st : AllStand old (xs ++ s ∷ [])) (apart : AreApart old (xs ++ s ∷ [])) (grew : HasGrown s t old new) where
  front_same : (k : ℕ) → OwnedBy old xs k → at_cell new k ≡ at_cell old k
  front_same k own = grew.frame k (λ mine. elim (grew.grows k mine) [
    | inl was ↦ apart_between old xs (s ∷ []) k apart own (inl was)
    | inr none ↦ vacant old k none (all_placed old xs k (stand_front old xs (s ∷ []) st) own)
  ])

  still : AllStay old new xs
  still = all_stay old new xs (stand_front old xs (s ∷ []) st) front_same

  between : (k : ℕ) → OwnedBy new xs k → ¬ OwnedBy new (t ∷ []) k
  between k own last = elim last [
    | inl mine ↦ elim (grew.grows k mine) [
      | inl was ↦ apart_between old xs (s ∷ []) k apart (still.back k own) (inl was)
      | inr none ↦ vacant old k none (all_placed old xs k (stand_front old xs (s ∷ []) st) (still.back k own))
    ]
    | inr none ↦ none
  ]

  pub last_grew : LastGrew xs s t old new
  last_grew = record {
    stand = stand_both new xs (t ∷ []) still.stand (grew.here, tt);
    apart = apart_both new xs (t ∷ []) (still.apart (apart_front old xs (s ∷ []) apart)) ((λ k own none. none), tt) between;
    others = still;
    keeps = λ k own. elim (owned_either old xs (s ∷ []) k own) [
      | inl front ↦ owned_front new xs (t ∷ []) k (still.on k front)
      | inr last ↦ elim last [ inl mine ↦ owned_back new xs (t ∷ []) k (inl (grew.keeps k mine)) | inr none ↦ absurd none ]
    ];
    grows = λ k own. elim (owned_either new xs (t ∷ []) k own) [
      | inl front ↦ inl (owned_front old xs (s ∷ []) k (still.back k front))
      | inr last ↦ elim last [
        | inl mine ↦ elim (grew.grows k mine) [ inl was ↦ inl (owned_back old xs (s ∷ []) k (inl was)) | inr none ↦ inr none ]
        | inr none ↦ absurd none
      ]
    ];
    frame = λ k none. grew.frame k (λ mine. none (owned_back new xs (t ∷ []) k (inl mine)));
  }
