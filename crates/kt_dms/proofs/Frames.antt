-- Entries and stores where their places have not changed.
use Rattle.std.proofs.Common.{◌≡◌, ℕ, ◌+◌, ◌<◌, inl, inr, List, [], ◌∷◌, ◌++◌, map, length, refl, sym, ap, subst, ◌∙◌, arith}
use Rattle.std.specs.List.{sum_by, AllByRecursion}
use Rattle.std.proofs.lemmas.Bool.{cases_eq}
use Rattle.std.proofs.lemmas.List.Sums.{sum_by-cons}
use Rattle.kt_pool.specs.Contents.{Contents, Stands, at_cell, bytes_at, cells_for}
use Rattle.kt_tree.specs.Entries.{Entry}
use Rattle.kt_tree.specs.Trees as trees
use Rattle.kt_tree.proofs.Callers.{owned, still_tree, still_entries, still_seat, still_owns, owns_still}
use Rattle.kt_tree.specs.declared.seat.Seat.{Seat}
use Rattle.kt_tree.proofs.Places.{bytes_same, one_same, one_other}
use Rattle.kt_dms.specs.declared.store.DeltaMem.{DeltaMem}
use Rattle.kt_dms.specs.Changes.{change_in, SpellsChange}
use Rattle.kt_dms.specs.Keys.{ordinal_of, ts_of}
use Rattle.kt_dms.specs.Stores.{delta_at, deltas_of, values_at, values_had, cells_had, Owns, IsEntry, IsStore}
use Rattle.kt_dms.proofs.Spelling.{change_stands}

pub values-append : (xs ys : List Entry) (k : ℕ) → values_at (xs ++ ys) k ≡ values_at xs k + values_at ys k
values-append [] ys k = omega arith
values-append (x ∷ xs) ys k = let e = values-append xs ys k in omega arith

pub each_left : (P : Entry → Type 0) (xs ys : List Entry) → AllByRecursion P (xs ++ ys) → AllByRecursion P xs
each_left P [] ys h = tt
each_left P (x ∷ xs) ys h = (h.0, each_left P xs ys h.1)

pub each_right : (P : Entry → Type 0) (xs ys : List Entry) → AllByRecursion P (xs ++ ys) → AllByRecursion P ys
each_right P [] ys h = h
each_right P (x ∷ xs) ys h = each_right P xs ys h.1

pub each_both : (P : Entry → Type 0) (xs ys : List Entry) → AllByRecursion P xs → AllByRecursion P ys → AllByRecursion P (xs ++ ys)
each_both P [] ys h k = k
each_both P (x ∷ xs) ys h k = (h.0, each_both P xs ys h.1 k)

-- the place of a change stands
pub value_stands : (pool : Contents) (es : List Entry) (k : ℕ) → AllByRecursion (IsEntry pool) es → 0 < values_at es k → Stands pool k
value_stands pool [] k each low = absurd (omega arith)
value_stands pool (e ∷ es) k each low = elim (cases_eq e.value k) [
  | inl same ↦ subst (Stands pool) same (change_stands pool e.value each.0.change)
  | inr other ↦ let z = one_other e.value k other in value_stands pool es k each.1 (omega arith)
]

-- the same changes stand at both
pub record Kept (old new : Contents) (es : List Entry) : Type 0 where
  pub each : AllByRecursion (IsEntry new) es
  pub deltas : map (delta_at new) es ≡ map (delta_at old) es
  pub had : values_had new es ≡ values_had old es

pub kept : (old new : Contents) (es : List Entry) → AllByRecursion (IsEntry old) es → ((k : ℕ) → 0 < values_at es k → at_cell new k ≡ at_cell old k) → Kept old new es
kept old new [] each same = record { each = tt; deltas = refl; had = refl }
kept old new (e ∷ es) each same =
    let here : bytes_at new e.value ≡ bytes_at old e.value = bytes_same old new e.value (same e.value (let o = one_same e.value e.value refl in omega arith)) in
    let more = kept old new es each.1 (λ k low. same k (omega arith)) in
    record {
      each = (record { key = each.0.key; change = subst SpellsChange (sym here) each.0.change }, more.each);
      deltas = ap (λ bytes. record { ordinal = ordinal_of e.key; ts = ts_of e.key; change = change_in bytes } ∷ map (delta_at new) es) here ∙ ap (λ ds. delta_at old e ∷ ds) more.deltas;
      had =
          sum_by-cons (λ (e : Entry). cells_for (length (bytes_at new e.value))) e es
          ∙ ap (λ bytes. cells_for (length bytes) + values_had new es) here ∙ ap (λ n. cells_for (length (bytes_at old e.value)) + n) more.had
          ∙ sym (sum_by-cons (λ (e : Entry). cells_for (length (bytes_at old e.value))) e es);
    }

-- where no place of a store has changed, it stands as it was
module _ (s : DeltaMem) (old new : Contents) (st : IsStore s old) (same : (k : ℕ) → Owns s old k → at_cell new k ≡ at_cell old k) where
  tree_same : (k : ℕ) → trees.Owns s.tree old k → at_cell new k ≡ at_cell old k
  tree_same k o = same k (inl o)

  pub entries_still : trees.entries s.tree new ≡ trees.entries s.tree old
  entries_still = still_entries s.tree old new st.tree tree_same

  -- the seat of a key is where it was
  pub seat_still : (key : List ℕ) (seat : Seat) → trees.IsSeat s.tree old key seat → trees.IsSeat s.tree new key seat
  seat_still = still_seat s.tree old new st.tree tree_same

  kept_still : Kept old new (trees.entries s.tree old)
  kept_still = kept old new (trees.entries s.tree old) st.each (λ k low. same k (inr low))

  pub deltas_still : deltas_of s new ≡ deltas_of s old
  deltas_still = ap (map (delta_at new)) entries_still ∙ kept_still.deltas

  pub had_still : cells_had s new ≡ cells_had s old
  had_still =
      let nodes = ap (λ es. sum_by (λ (e : Entry). trees.need e.key) es) entries_still in
      let values = ap (values_had new) entries_still in
      let more = kept_still.had in
      omega arith

  pub owns_back : (k : ℕ) → Owns s new k → Owns s old k
  owns_back k o = elim o [
    | inl t ↦ inl (still_owns s.tree old new st.tree tree_same k t)
    | inr low ↦ inr (let e = ap (λ es. values_at es k) entries_still in omega arith)
  ]

  pub owns_on : (k : ℕ) → Owns s old k → Owns s new k
  owns_on k o = elim o [
    | inl t ↦ inl (owns_still s.tree old new st.tree tree_same k t)
    | inr low ↦ inr (let e = ap (λ es. values_at es k) entries_still in omega arith)
  ]

  pub is_still : IsStore s new
  is_still = record {
    tree = still_tree s.tree old new st.tree tree_same;
    each = subst (AllByRecursion (IsEntry new)) (sym entries_still) kept_still.each;
    once = λ k. let e = ap (λ es. values_at es k) entries_still in let o = st.once k in omega arith;
    beside = λ k low own. st.beside k (let e = ap (λ es. values_at es k) entries_still in omega arith) (still_owns s.tree old new st.tree tree_same k own);
  }

-- the places of a store stand
pub owned_stands : (s : DeltaMem) (pool : Contents) (k : ℕ) → IsStore s pool → Owns s pool k → Stands pool k
owned_stands s pool k st o = elim o [ inl t ↦ owned s.tree pool k st.tree t | inr low ↦ value_stands pool (trees.entries s.tree pool) k st.each low ]
