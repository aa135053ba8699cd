-- A change joins a store.
use Rattle.std.proofs.Common.{◌≡◌, ◌≢◌, ℕ, ◌+◌, ◌^◌, ◌<◌, inl, inr, ◌⊎◌, true, false, cond, List, [], ◌∷◌, ◌++◌, map, length, Some, None, Option, refl, sym, ap, subst, ◌∙◌, arith}
use Rattle.std.specs.Prelude.{is_some, MatchOption}
use Rattle.std.specs.List.{find, sum_by, AllByRecursion}
use Rattle.std.specs.Option.{option_map}
use Rattle.std.specs.Ordering.{is_eq, is_lt}
use Rattle.std.specs.declared.cmp.Ordering.{Ordering}
use Rattle.std.specs.declared.cmp.Ordering.TheVariants.{Less, Equal, Greater}
use Rattle.std.proofs.lemmas.Bool.{cases_lt, cases_eq, false≢true}
use Rattle.std.proofs.lemmas.List.Sums.{sum_by-append, sum_by-cons}
use Rattle.kt_history.specs.declared.operation.RowOp.{RowOp}
use Rattle.kt_history.specs.declared.target.Kindly.{Kindly}
use Rattle.kt_history.specs.Stores.{change_of, step_at}
use Rattle.kt_pool.specs.Contents.{Contents, Stands, at_cell, bytes_at, cells_for}
use Rattle.kt_pool.specs.declared.place.Place.{Place}
use Rattle.kt_tree.specs.Entries.{Entry, order, is_at, value_of, put_at, put}
use Rattle.kt_tree.specs.Takes.{Takes}
use Rattle.kt_tree.specs.Trees as trees
use Rattle.kt_tree.specs.declared.seat.Seat.{Seat}
use Rattle.kt_tree.specs.declared.tree.Tree.{Tree}
use Rattle.kt_tree.proofs.Places.{bytes_same, one_same, one_other}
use Rattle.kt_dms.specs.declared.store.DeltaMem.{DeltaMem}
use Rattle.kt_dms.specs.Keys.{key_of, ts_of, IsKey}
use Rattle.kt_dms.specs.Changes.{change_in, change_len, SpellsChange}
use Rattle.kt_dms.specs.Stores.{delta_at, deltas_in, deltas_of, steps_for, with_delta, delta_by, values_at, values_had, cells_had, Owns, IsEntry, IsHeld, IsStore, cells_taken, Joins}
use Rattle.kt_dms.proofs.KeyOrder.{is_key, ordinal_again, ts_again, key_lt}
use Rattle.kt_dms.proofs.OneRow.{step_is}
use Rattle.kt_dms.proofs.Spelling.{change_stands}
use Rattle.kt_dms.proofs.Frames.{values-append, each_left, each_right, each_both, value_stands, Kept, kept, entries_still, seat_still, deltas_still, had_still, owns_back, owns_on, is_still, owned_stands}

abbrev pub at_key : List ℕ → ℕ → Entry
at_key key v = record { key = key; value = v }

-- ---- a key that was not there

pub record Parts (key : List ℕ) (v : ℕ) (es : List Entry) : Type 0 where
  pub before : List Entry
  pub after : List Entry
  pub was : es ≡ before ++ after
  pub is : put key v es ≡ before ++ at_key key v ∷ after

absent : (key : List ℕ) (es : List Entry) → value_of key es ≡ None → find (is_at key) es ≡ None
absent key es h = by (find (is_at key) es) h
  where
    by : (o : Option Entry) → option_map (λ (e : Entry). e.value) o ≡ None → o ≡ None
    by None h = refl
    by (Some e) h = cc

pub parts_of : (key : List ℕ) (v : ℕ) (es : List Entry) → find (is_at key) es ≡ None → Parts key v es
parts_of key v [] h = record { before = []; after = []; was = refl; is = refl }
parts_of key v (e ∷ es) h = by (order e.key key) refl h (λ k. parts_of key v es k)
  where
    by : (o : Ordering) → order e.key key ≡ o → cond (is_eq o) (Some e) (find (is_at key) es) ≡ None → (find (is_at key) es ≡ None → Parts key v es) → Parts key v (e ∷ es)
    by Less l k more =
        let m = more k in
        record { before = e ∷ m.before; after = m.after; was = ap (λ xs. e ∷ xs) m.was; is = ap (λ o. put_at o (at_key key v) e es (put key v es)) l ∙ ap (λ xs. e ∷ xs) m.is }
    by Equal l k more = absurd (let g : Some e ≡ None = k in cc)
    by Greater l k more = record { before = []; after = e ∷ es; was = refl; is = ap (λ o. put_at o (at_key key v) e es (put key v es)) l }

module _ (key : List ℕ) (v : ℕ) (es : List Entry) (p : Parts key v es) where
  values_put : (k : ℕ) → values_at (put key v es) k ≡ values_at (at_key key v ∷ []) k + values_at es k
  values_put k =
      let a = ap (λ xs. values_at xs k) p.is in let b = values-append p.before (at_key key v ∷ p.after) k in
      let c = ap (λ xs. values_at xs k) p.was in let d = values-append p.before p.after k in
      omega arith

  sum_put : (f : Entry → ℕ) → sum_by f (put key v es) ≡ f (at_key key v) + sum_by f es
  sum_put f =
      let a = ap (sum_by f) p.is in let b = sum_by-append f p.before (at_key key v ∷ p.after) in
      let c = ap (sum_by f) p.was in let d = sum_by-append f p.before p.after in let e = sum_by-cons f (at_key key v) p.after in
      omega arith

  each_put : (P : Entry → Type 0) → P (at_key key v) → AllByRecursion P es → AllByRecursion P (put key v es)
  each_put P here each =
      let each2 = subst (AllByRecursion P) p.was each in
      subst (AllByRecursion P) (sym p.is) (each_both P p.before (at_key key v ∷ p.after) (each_left P p.before p.after each2) (here, each_right P p.before p.after each2))

-- the changes, with the new one in its place
deltas_put : (pool : Contents) (key : List ℕ) (v : ℕ) (es : List Entry) → IsKey key → AllByRecursion (IsEntry pool) es → find (is_at key) es ≡ None → map (delta_at pool) (put key v es) ≡ with_delta (delta_at pool (at_key key v)) (map (delta_at pool) es)
deltas_put pool key v [] k each h = refl
deltas_put pool key v (e ∷ es) k each h =
    by (order e.key key) h (λ g. deltas_put pool key v es k each.1 g)
    ∙ ap (λ b. cond b (delta_at pool e ∷ with_delta (delta_at pool (at_key key v)) (map (delta_at pool) es)) (delta_at pool (at_key key v) ∷ delta_at pool e ∷ map (delta_at pool) es)) (key_lt e.key key each.0.key k)
  where
    by : (o : Ordering) → cond (is_eq o) (Some e) (find (is_at key) es) ≡ None
        → (find (is_at key) es ≡ None → map (delta_at pool) (put key v es) ≡ with_delta (delta_at pool (at_key key v)) (map (delta_at pool) es))
        → map (delta_at pool) (put_at o (at_key key v) e es (put key v es)) ≡ cond (is_lt o) (delta_at pool e ∷ with_delta (delta_at pool (at_key key v)) (map (delta_at pool) es)) (delta_at pool (at_key key v) ∷ delta_at pool e ∷ map (delta_at pool) es)
    by Less g more = ap (λ ds. delta_at pool e ∷ ds) (more g)
    by Equal g more = absurd (let f : Some e ≡ None = g in cc)
    by Greater g more = refl

-- ---- the store

zero_or : (n : ℕ) → (0 < n → ⊥) → n ≡ 0
zero_or n never = elim (cases_lt 0 n) [ inl some ↦ absurd (never some) | inr none ↦ omega arith ]

-- the change is placed, and the tree has not taken it yet
module _ (s : DeltaMem) (p0 p1 : Contents) (cell ordinal ts : ℕ) (op : RowOp) (kind : Kindly) (st : IsStore s p0) (vacant : at_cell p0 cell ≡ None) (others : (k : ℕ) → k ≢ cell → at_cell p1 k ≡ at_cell p0 k) where
  not_owned : ¬ Owns s p0 cell
  not_owned o = false≢true (sym (ap is_some vacant) ∙ owned_stands s p0 cell st o)

  same1 : (k : ℕ) → Owns s p0 k → at_cell p1 k ≡ at_cell p0 k
  same1 k o = others k (λ e. not_owned (subst (Owns s p0) e o))

  pub store1 : IsStore s p1
  store1 = is_still s p0 p1 st same1

  pub entries1 : trees.entries s.tree p1 ≡ trees.entries s.tree p0
  entries1 = entries_still s p0 p1 st same1

  pub seat1 : (key : List ℕ) (seat : Seat) → trees.IsSeat s.tree p0 key seat → trees.IsSeat s.tree p1 key seat
  seat1 = seat_still s p0 p1 st same1

  not_owned1 : ¬ Owns s p1 cell
  not_owned1 o = not_owned (owns_back s p0 p1 st same1 cell o)

  -- the tree has taken it, too
  module _ (spells : SpellsChange (bytes_at p1 cell)) (change : change_in (bytes_at p1 cell) ≡ change_of kind op.cells) (long : length (bytes_at p1 cell) ≡ change_len op.cells) (takes : Takes p0 p1 (cells_for (change_len op.cells)))
      (small : ordinal < 2 ^ 32) (early : ts < 2 ^ 64) (lacks : value_of (key_of ordinal ts) (trees.entries s.tree p1) ≡ None)
      (t : DeltaMem) (p2 : Contents) (number : t.id ≡ s.id) (is_tree : trees.IsTree t.tree p2) (puts : trees.entries t.tree p2 ≡ put (key_of ordinal ts) cell (trees.entries s.tree p1))
      (tree_keeps : (k : ℕ) → trees.Owns s.tree p1 k → trees.Owns t.tree p2 k) (tree_grows : (k : ℕ) → trees.Owns t.tree p2 k → trees.Owns s.tree p1 k ⊎ (at_cell p1 k ≡ None)) (tree_frame : (k : ℕ) → ¬ trees.Owns t.tree p2 k → at_cell p2 k ≡ at_cell p1 k)
      (tree_takes : Takes p1 p2 (trees.need (key_of ordinal ts))) where
    abbrev es : List Entry
    es = trees.entries s.tree p1

    abbrev key : List ℕ
    key = key_of ordinal ts

    away : (k : ℕ) → Stands p1 k → ¬ trees.Owns s.tree p1 k → ¬ trees.Owns t.tree p2 k
    away k stands none own = elim (tree_grows k own) [ inl was ↦ none was | inr gone ↦ false≢true (sym (ap is_some gone) ∙ stands) ]

    value_away : (k : ℕ) → 0 < values_at es k → ¬ trees.Owns t.tree p2 k
    value_away k low = away k (value_stands p1 es k store1.each low) (store1.beside k low)

    cell_away : ¬ trees.Owns t.tree p2 cell
    cell_away = away cell (change_stands p1 cell spells) (λ own. not_owned1 (inl own))

    kept2 : Kept p1 p2 es
    kept2 = kept p1 p2 es store1.each (λ k low. tree_frame k (value_away k low))

    bytes2 : bytes_at p2 cell ≡ bytes_at p1 cell
    bytes2 = bytes_same p1 p2 cell (tree_frame cell cell_away)

    parts : Parts key cell es
    parts = parts_of key cell es (absent key es lacks)

    entry2 : IsEntry p2 (at_key key cell)
    entry2 = record { key = is_key ordinal ts small early; change = subst SpellsChange (sym bytes2) spells }

    values2 : (k : ℕ) → values_at (trees.entries t.tree p2) k ≡ values_at (at_key key cell ∷ []) k + values_at es k
    values2 k = ap (λ xs. values_at xs k) puts ∙ values_put key cell es parts k

    none_there : values_at es cell ≡ 0
    none_there = zero_or (values_at es cell) (λ low. not_owned1 (inr low))

    stands2 : IsStore t p2
    stands2 = record {
      tree = is_tree;
      each = subst (AllByRecursion (IsEntry p2)) (sym puts) (each_put key cell es parts (IsEntry p2) entry2 kept2.each);
      once = λ k. let v = values2 k in let o = store1.once k in elim (cases_eq cell k) [
        | inl same ↦ let a = one_same cell k same in let n = none_there in let z = ap (values_at es) same in omega arith
        | inr other ↦ let a = one_other cell k other in omega arith
      ];
      beside = λ k low own. let v = values2 k in elim (cases_eq cell k) [
        | inl same ↦ cell_away (subst (trees.Owns t.tree p2) (sym same) own)
        | inr other ↦ let a = one_other cell k other in value_away k (omega arith) own
      ];
    }

    delta2 : delta_at p2 (at_key key cell) ≡ delta_by ordinal ts kind op
    delta2 =
        ap (λ n. record { ordinal = n; ts = ts_of key; change = change_in (bytes_at p2 cell) }) (ordinal_again ordinal ts small)
        ∙ ap (λ n. record { ordinal = ordinal; ts = n; change = change_in (bytes_at p2 cell) }) (ts_again ordinal ts early)
        ∙ ap (λ c. record { ordinal = ordinal; ts = ts; change = c }) (ap change_in bytes2 ∙ change)

    joined2 : deltas_of t p2 ≡ with_delta (delta_by ordinal ts kind op) (deltas_of s p0)
    joined2 =
        ap (map (delta_at p2)) puts ∙ deltas_put p2 key cell es (is_key ordinal ts small early) kept2.each (absent key es lacks)
        ∙ ap (λ d. with_delta d (map (delta_at p2) es)) delta2 ∙ ap (with_delta (delta_by ordinal ts kind op)) (kept2.deltas ∙ deltas_still s p0 p1 st same1)

    had2 : cells_had t p2 ≡ cells_had s p0 + cells_taken op
    had2 =
        let nodes : sum_by (λ (e : Entry). trees.need e.key) (trees.entries t.tree p2) ≡ trees.need key + sum_by (λ (e : Entry). trees.need e.key) es = ap (sum_by (λ (e : Entry). trees.need e.key)) puts ∙ sum_put key cell es parts (λ (e : Entry). trees.need e.key) in
        let values : values_had p2 (trees.entries t.tree p2) ≡ cells_for (length (bytes_at p2 cell)) + values_had p2 es = ap (values_had p2) puts ∙ sum_put key cell es parts (λ (e : Entry). cells_for (length (bytes_at p2 e.value))) in
        let own : cells_for (length (bytes_at p2 cell)) ≡ cells_for (change_len op.cells) = ap (λ bytes. cells_for (length bytes)) bytes2 ∙ ap cells_for long in
        let need : trees.need key ≡ 2 = refl in
        let more = kept2.had in
        let was = had_still s p0 p1 st same1 in
        omega arith

    none0 : (k : ℕ) → at_cell p1 k ≡ None → at_cell p0 k ≡ None
    none0 k none = elim (cases_eq k cell) [ inl same ↦ ap (at_cell p0) same ∙ vacant | inr other ↦ sym (others k other) ∙ none ]

    pub joins : Joins s t p0 p2 ordinal ts op kind
    joins = record {
      stands = stands2;
      joined = joined2;
      takes = record {
        size = tree_takes.size ∙ takes.size;
        reserved = let a = tree_takes.reserved in let b = takes.reserved in let need : trees.need key ≡ 2 = refl in omega arith;
        used = let a = tree_takes.used in let b = takes.used in let need : trees.need key ≡ 2 = refl in omega arith;
      };
      had = had2;
      keeps = λ k o. elim (owns_on s p0 p1 st same1 k o) [ inl own ↦ inl (tree_keeps k own) | inr low ↦ inr (let v = values2 k in omega arith) ];
      grows = λ k o. elim o [
        | inl own ↦ elim (tree_grows k own) [ inl was ↦ inl (owns_back s p0 p1 st same1 k (inl was)) | inr none ↦ inr (none0 k none) ]
        | inr low ↦ let v = values2 k in elim (cases_eq cell k) [
          | inl same ↦ inr (ap (at_cell p0) (sym same) ∙ vacant)
          | inr other ↦ inl (owns_back s p0 p1 st same1 k (inr (let a = one_other cell k other in omega arith)))
        ]
      ];
      frame = λ k none.
          let v = values2 k in
          let z : values_at (trees.entries t.tree p2) k ≡ 0 = zero_or (values_at (trees.entries t.tree p2) k) (λ low. none (inr low)) in
          tree_frame k (λ own. none (inl own)) ∙ others k (λ same. let o = one_same cell k (sym same) in absurd (omega arith));
      number = number;
    }

-- ---- whether a change is there

module _ (tree : Tree) (pool : Contents) (ordinal ts : ℕ) (small : ordinal < 2 ^ 32) (early : ts < 2 ^ 64) (st : IsHeld tree pool) (found : Option Place) (key : List ℕ) (key_is_it : key ≡ key_of ordinal ts) (got : found ≡ option_map trees.place_at (value_of key (trees.entries tree pool))) where
  value_is : found ≡ option_map trees.place_at (value_of (key_of ordinal ts) (trees.entries tree pool))
  value_is = got ∙ ap (λ k. option_map trees.place_at (value_of k (trees.entries tree pool))) key_is_it

  step_at_is : step_at ts (steps_for ordinal (deltas_in tree pool)) ≡ option_map (λ v. change_in (bytes_at pool v)) (value_of (key_of ordinal ts) (trees.entries tree pool))
  step_at_is = step_is pool ordinal ts small early (trees.entries tree pool) st.each

  -- the tree has the key just where there is a change
  pub step_there : is_some (step_at ts (steps_for ordinal (deltas_in tree pool))) ≡ is_some found
  step_there = ap is_some step_at_is ∙ by (value_of (key_of ordinal ts) (trees.entries tree pool)) ∙ sym (ap is_some value_is)
    where
      by : (o : Option ℕ) → is_some (option_map (λ v. change_in (bytes_at pool v)) o) ≡ is_some (option_map trees.place_at o)
      by None = refl
      by (Some v) = refl

  pub value_none : is_some found ≡ false → value_of (key_of ordinal ts) (trees.entries tree pool) ≡ None
  value_none e = by (value_of (key_of ordinal ts) (trees.entries tree pool)) (sym (ap is_some value_is) ∙ e)
    where
      by : (o : Option ℕ) → is_some (option_map trees.place_at o) ≡ false → o ≡ None
      by None h = refl
      by (Some v) h = absurd (false≢true (sym h))

pub match_some : {X : Type 0} (o : Option X) (P : Type 0) (Q : X → Type 0) → is_some o ≡ true → ((x : X) → Q x) → MatchOption o P Q
match_some None P Q e q = absurd (false≢true e)
match_some (Some x) P Q e q = q x

pub match_none : {X : Type 0} (o : Option X) (P : Type 0) (Q : X → Type 0) → is_some o ≡ false → P → MatchOption o P Q
match_none None P Q e p = p
match_none (Some x) P Q e p = absurd (false≢true (sym e))
