-- The places of a store's changes, given back.
use Rattle.std.proofs.Common.{◌≡◌, ℕ, ◌+◌, ◌<◌, inl, inr, Bool, true, false, List, [], ◌∷◌, ◌++◌, length, map, Some, None, Option, refl, sym, ap, subst, ◌∙◌, arith, append_assoc}
use Rattle.std.specs.List.{find, sum_by, AllByRecursion}
use Rattle.std.proofs.lemmas.Bool.{cases_lt, cases_eq}
use Rattle.std.proofs.lemmas.List.{append-nil}
use Rattle.std.proofs.lemmas.List.Sums.{sum_by-append, sum_by-cons}
use Rattle.kt_pool.specs.Contents.{Contents, Stands, at_cell, bytes_at, with_place, used, cells_of, cells_for}
use Rattle.kt_pool.proofs.Callers.{at_same, at_other, size_same, reserved_after}
use Rattle.std.specs.Prelude.{is_some, nat_lt, ◌==◌, ◌&&◌, ◌||◌}
use Rattle.std.specs.Ordering.{is_gt}
use Rattle.kt_tree.specs.Entries.{Entry, is_after, is_past, next, AreAbove, IsRising}
use Rattle.kt_tree.specs.Trees as trees
use Rattle.kt_tree.specs.declared.tree.Pair.{Pair}
use Rattle.kt_tree.specs.declared.tree.Tree.{Tree}
use Rattle.kt_tree.proofs.Callers.{still_tree, still_entries, still_owns, owns_still}
use Rattle.kt_tree.proofs.Orders.{greater_is, find_past, find_first, find_next, none_after, rising_below, rising_above}
use Rattle.kt_tree.proofs.Places.{stands_inside, bytes_some, some_bytes, used_after, one_same, one_other}
use Rattle.kt_dms.specs.declared.store.DeltaMem.{DeltaMem}
use Rattle.kt_dms.specs.Keys.{ordinal_of, ts_of, IsKey}
use Rattle.kt_dms.specs.Stores.{delta_at, deltas_of, values_at, values_had, cells_had, Owns, IsEntry, IsHeld, IsStore}
use Rattle.kt_dms.specs.Walks.{first_of, Releasing, Released}
use Rattle.kt_dms.proofs.KeyOrder.{key_gt, not_lt_is}
use Rattle.kt_dms.proofs.Spelling.{change_stands}
use Rattle.kt_dms.proofs.Frames.{values-append, each_right}

-- ---- the entries in turn

pub first_any : (es : List Entry) → find (is_after None) es ≡ first_of es
first_any [] = refl
first_any (e ∷ es) = refl

first_above : (key : List ℕ) (es : List Entry) → AreAbove key es → find (is_after (Some key)) es ≡ first_of es
first_above key [] above = refl
first_above key (e ∷ es) above = find_first (is_after (Some key)) e es (ap is_gt (greater_is e.key key above.0))

not_itself : (key : List ℕ) → IsKey key → is_past (Some key) key ≡ false
not_itself key k =
    key_gt key key k k
    ∙ ap (λ b. b || ((ordinal_of key == ordinal_of key) && nat_lt (ts_of key) (ts_of key))) (not_lt_is (ordinal_of key) (ordinal_of key) (omega arith))
    ∙ ap (λ b. (ordinal_of key == ordinal_of key) && b) (not_lt_is (ts_of key) (ts_of key) (omega arith)) ∙ both (ordinal_of key == ordinal_of key)
  where
    both : (b : Bool) → (b && false) ≡ false
    both true = refl
    both false = refl

-- the entry behind one is the next
next_here : (xs : List Entry) (e : Entry) (ys : List Entry) → IsKey e.key → IsRising (xs ++ e ∷ ys) → next (Some e.key) (xs ++ e ∷ ys) ≡ first_of ys
next_here xs e ys k rise =
    find_past (is_after (Some e.key)) xs (e ∷ ys) (none_after e.key xs (rising_below xs e ys rise))
    ∙ find_next (is_after (Some e.key)) e ys (not_itself e.key k) ∙ first_above e.key ys (rising_above xs e ys rise)

pub key_long : (key : List ℕ) → IsKey key → length key ≡ 12
key_long key k = ap length k.is

module _ (tree : Tree) (old : Contents) (st : IsHeld tree old) where
  pub release_starts : (pair : Option Pair) → trees.IsPairOf tree old pair (next None (trees.entries tree old)) → Releasing tree old old pair
  release_starts pair h = record {
    gone = [];
    left = trees.entries tree old;
    is = refl;
    next_is = subst (trees.IsPairOf tree old pair) (first_any (trees.entries tree old)) h;
    size = refl;
    reserved = refl;
    fewer = omega arith;
    free = λ k low. absurd (omega arith);
    frame = λ k none. refl;
  }

  pub release_ends : (now : Contents) → Releasing tree old now None → Released tree old now
  release_ends now r = by r.left r.is r.next_is
    where
      by : (left : List Entry) → trees.entries tree old ≡ r.gone ++ left → trees.IsPairOf tree now None (first_of left) → Released tree old now
      by [] is h =
          let all : trees.entries tree old ≡ r.gone = is ∙ append-nil r.gone in
          record {
            size = r.size;
            reserved = r.reserved;
            fewer = ap (λ es. used now + values_had old es) all ∙ r.fewer;
            free = λ k low. r.free k (let e = ap (λ es. values_at es k) all in omega arith);
            frame = λ k none. r.frame k (let e = ap (λ es. values_at es k) all in omega arith);
          }
      by (e ∷ left) is h = absurd h

-- the entry whose change is given back next
pub record Here (tree : Tree) (old now : Contents) (pair : Pair) : Type 0 where
  pub gone : List Entry
  pub entry : Entry
  pub rest : List Entry
  pub is : trees.entries tree old ≡ gone ++ entry ∷ rest
  pub found : trees.IsPair tree now pair entry
  pub size : length now.places ≡ length old.places
  pub reserved : now.reserved ≡ old.reserved
  pub fewer : used now + values_had old gone ≡ used old
  pub free : (k : ℕ) → 0 < values_at gone k → at_cell now k ≡ None
  pub frame : (k : ℕ) → values_at gone k ≡ 0 → at_cell now k ≡ at_cell old k

pub here : (tree : Tree) (old now : Contents) (pair : Pair) → Releasing tree old now (Some pair) → Here tree old now pair
here tree old now pair r = by r.left r.is r.next_is
  where
    by : (left : List Entry) → trees.entries tree old ≡ r.gone ++ left → trees.IsPairOf tree now (Some pair) (first_of left) → Here tree old now pair
    by [] is h = absurd h
    by (e ∷ left) is h = record { gone = r.gone; entry = e; rest = left; is = is; found = h; size = r.size; reserved = r.reserved; fewer = r.fewer; free = r.free; frame = r.frame }

module _ (tree : Tree) (old now : Contents) (st : IsHeld tree old) (pair : Pair) (h : Here tree old now pair) where
  rest_each : AllByRecursion (IsEntry old) (h.entry ∷ h.rest)
  rest_each = each_right (IsEntry old) h.gone (h.entry ∷ h.rest) (subst (AllByRecursion (IsEntry old)) h.is st.each)

  counts : (k : ℕ) → values_at (trees.entries tree old) k ≡ values_at h.gone k + values_at (h.entry ∷ h.rest) k
  counts k = ap (λ es. values_at es k) h.is ∙ values-append h.gone (h.entry ∷ h.rest) k

  not_gone : values_at h.gone h.entry.value ≡ 0
  not_gone = let c = counts h.entry.value in let o = st.once h.entry.value in let a = one_same h.entry.value h.entry.value refl in omega arith

  value_here : pair.value.cell ≡ h.entry.value
  value_here = h.found.value

  cell_same : at_cell now pair.value.cell ≡ at_cell old h.entry.value
  cell_same = ap (at_cell now) value_here ∙ h.frame h.entry.value not_gone

  stands_old : Stands old h.entry.value
  stands_old = change_stands old h.entry.value rest_each.0.change

  pub value_there : Stands now pair.value.cell
  value_there = ap is_some cell_same ∙ stands_old

  pub key_is : bytes_at now pair.key.cell ≡ h.entry.key
  key_is = bytes_some now pair.key.cell h.entry.key h.found.key

  pub key_there : length (bytes_at now pair.key.cell) ≡ 12
  key_there = ap length key_is ∙ key_long h.entry.key rest_each.0.key

  -- its change is given back
  module _ (new : Contents) (g : new ≡ with_place now pair.value.cell None now.reserved) where
    pub less_used : used new < used now
    less_used =
        let u = used_after now new pair.value.cell None now.reserved g (stands_inside now pair.value.cell value_there) in
        let c : cells_of (at_cell now pair.value.cell) ≡ cells_for (length (bytes_at now pair.value.cell)) = ap cells_of (some_bytes now pair.value.cell value_there) in
        omega arith

    same_tree : (k : ℕ) → trees.Owns tree old k → at_cell new k ≡ at_cell old k
    same_tree k own =
        let none : values_at (trees.entries tree old) k ≡ 0 = elim (cases_lt 0 (values_at (trees.entries tree old) k)) [ inl low ↦ absurd (st.beside k low own) | inr zero ↦ omega arith ] in
        let c = counts k in
        at_other now new pair.value.cell None now.reserved g k (λ e. let a = one_same h.entry.value k (sym (e ∙ value_here)) in absurd (omega arith))
        ∙ h.frame k (omega arith)

    pub tree_stands : trees.IsTree tree new
    tree_stands = still_tree tree old new st.tree same_tree

    pub release_step : (key : List ℕ) → key ≡ bytes_at now pair.key.cell → (pair2 : Option Pair) → trees.IsPairOf tree new pair2 (next (Some key) (trees.entries tree new)) → Releasing tree old new pair2
    release_step key read pair2 found =
        let k : key ≡ h.entry.key = read ∙ key_is in
        let es : trees.entries tree new ≡ h.gone ++ h.entry ∷ h.rest = still_entries tree old new st.tree same_tree ∙ h.is in
        let to : next (Some key) (trees.entries tree new) ≡ first_of h.rest =
        ap (λ es. next (Some key) es) es ∙ ap (λ k. next (Some k) (h.gone ++ h.entry ∷ h.rest)) k
        ∙ next_here h.gone h.entry h.rest rest_each.0.key (subst IsRising h.is st.tree.rising) in
        record {
          gone = h.gone ++ h.entry ∷ [];
          left = h.rest;
          is = h.is ∙ sym (append_assoc h.gone (h.entry ∷ []) h.rest);
          next_is = subst (trees.IsPairOf tree new pair2) to found;
          size = size_same now new pair.value.cell None now.reserved g ∙ h.size;
          reserved = reserved_after now new pair.value.cell None now.reserved g ∙ h.reserved;
          fewer =
              let u = used_after now new pair.value.cell None now.reserved g (stands_inside now pair.value.cell value_there) in
              let c : cells_of (at_cell now pair.value.cell) ≡ cells_for (length (bytes_at old h.entry.value)) = ap cells_of (cell_same ∙ some_bytes old h.entry.value stands_old) in
              let a = sum_by-append (λ (e : Entry). cells_for (length (bytes_at old e.value))) h.gone (h.entry ∷ []) in
              let b = sum_by-cons (λ (e : Entry). cells_for (length (bytes_at old e.value))) h.entry [] in
              let f = h.fewer in
              omega arith;
          free = λ k low. elim (cases_eq k pair.value.cell) [
            | inl same ↦ ap (at_cell new) same ∙ at_same now new pair.value.cell None now.reserved g (stands_inside now pair.value.cell value_there)
            | inr other ↦
                let a = values-append h.gone (h.entry ∷ []) k in
                let z = one_other h.entry.value k (λ e. other (sym e ∙ sym value_here)) in
                at_other now new pair.value.cell None now.reserved g k other ∙ h.free k (omega arith)
          ];
          frame = λ k none.
              let a = values-append h.gone (h.entry ∷ []) k in
              at_other now new pair.value.cell None now.reserved g k (λ e. let o = one_same h.entry.value k (sym (e ∙ value_here)) in absurd (omega arith)) ∙ h.frame k (omega arith);
        }

-- ---- a store that is emptied

module _ (s : DeltaMem) (pool : Contents) (tree : trees.IsTree s.tree pool) (empty : trees.entries s.tree pool ≡ []) (bare : (k : ℕ) → ¬ trees.Owns s.tree pool k) where
  pub bare_owns : (k : ℕ) → ¬ Owns s pool k
  bare_owns k o = elim o [ inl t ↦ bare k t | inr low ↦ let e = ap (λ es. values_at es k) empty in absurd (omega arith) ]

  pub bare_had : cells_had s pool ≡ 0
  bare_had =
      let nodes = ap (λ es. sum_by (λ (e : Entry). trees.need e.key) es) empty in
      let values = ap (values_had pool) empty in
      omega arith

  pub bare_deltas : deltas_of s pool ≡ []
  bare_deltas = ap (map (delta_at pool)) empty

  pub bare_store : IsStore s pool
  bare_store = record {
    tree = tree;
    each = subst (AllByRecursion (IsEntry pool)) (sym empty) tt;
    once = λ k. let e = ap (λ es. values_at es k) empty in omega arith;
    beside = λ k low own. bare k own;
  }

module _ (s : DeltaMem) (old p1 p2 : Contents) (st : IsStore s old) (r : Released s.tree old p1) where
  tree_same : (k : ℕ) → trees.Owns s.tree old k → at_cell p1 k ≡ at_cell old k
  tree_same k own = r.frame k (elim (cases_lt 0 (values_at (trees.entries s.tree old) k)) [ inl low ↦ absurd (st.beside k low own) | inr none ↦ omega arith ])

  pub tree_stays : trees.IsTree s.tree p1
  tree_stays = still_tree s.tree old p1 st.tree tree_same

  pub emptied_fewer : used p2 + sum_by (λ (e : Entry). trees.need e.key) (trees.entries s.tree p1) ≡ used p1 → used p2 + cells_had s old ≡ used old
  emptied_fewer fewer =
      let same = ap (λ es. sum_by (λ (e : Entry). trees.need e.key) es) (still_entries s.tree old p1 st.tree tree_same) in
      let changes = r.fewer in
      omega arith

  module _ (gone : (k : ℕ) → trees.Owns s.tree p1 k → at_cell p2 k ≡ None) (frame : (k : ℕ) → ¬ trees.Owns s.tree p1 k → at_cell p2 k ≡ at_cell p1 k) where
    pub emptied_gone : (k : ℕ) → Owns s old k → at_cell p2 k ≡ None
    emptied_gone k o = elim o [
      | inl own ↦ gone k (owns_still s.tree old p1 st.tree tree_same k own)
      | inr low ↦ frame k (λ own. st.beside k low (still_owns s.tree old p1 st.tree tree_same k own)) ∙ r.free k low
    ]

    pub emptied_frame : (k : ℕ) → ¬ Owns s old k → at_cell p2 k ≡ at_cell old k
    emptied_frame k none =
        frame k (λ own. none (inl (still_owns s.tree old p1 st.tree tree_same k own)))
        ∙ r.frame k (elim (cases_lt 0 (values_at (trees.entries s.tree old) k)) [ inl low ↦ absurd (none (inr low)) | inr zero ↦ omega arith ])
