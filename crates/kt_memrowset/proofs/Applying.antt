-- An operation's change joins a store.
use Rattle.std.proofs.Common.{◌≡◌, ◌≢◌, ℕ, ◌+◌, ◌<◌, ◌≤◌, inl, inr, ◌⊎◌, true, false, cond, List, [], ◌∷◌, ◌++◌, length, map, Some, None, Option, refl, sym, ap, subst, ◌∙◌, arith}
use Rattle.std.specs.Prelude.{is_some}
use Rattle.std.specs.List.{sum_by}
use Rattle.std.proofs.lemmas.List.Sums.{sum_by-append, sum_by-cons}
use Rattle.std.specs.Option.{option_map}
use Rattle.std.specs.FinMap.Entries.{find as find_key, put as put_key}
use Rattle.std.proofs.lemmas.Bool.{cases_lt, cases_eq, false≢true}
use Rattle.kt_history.specs.Rows.{key_cmp, fits}
use Rattle.kt_history.specs.declared.operation.RowOp.{RowOp}
use Rattle.kt_history.specs.Stores.{Hist, push, hist_in, last_row, share, change_of}
use Rattle.kt_pool.specs.Contents.{Contents, Stands, at_cell, bytes_at, cells_for}
use Rattle.kt_pool.specs.declared.place.Place.{Place}
use Rattle.kt_tree.specs.Entries.{Entry, value_of, put}
use Rattle.kt_tree.specs.Takes.{Takes}
use Rattle.kt_tree.specs.Trees as trees
use Rattle.kt_tree.specs.declared.seat.Seat.{Seat}
use Rattle.kt_tree.specs.declared.tree.Tree.{Tree}
use Rattle.kt_tree.proofs.Callers.{owned, still_tree, still_entries, still_seat, still_owns, owns_still}
use Rattle.kt_tree.proofs.Places.{stands_some, one_same, one_other}
use Rattle.kt_memrowset.specs.declared.store.MemRowSet.{MemRowSet}
use Rattle.kt_memrowset.specs.Links.{nothing, Link, IsLink, spelling, chain, cells_of, times, step_of, steps_of}
use Rattle.kt_memrowset.specs.Stores.{hist_of, row_at, store_of, in_rows, trail, cells_at, cells_had, Owns, IsStore, link_need, cells_taken, change_by, Joins}
use Rattle.kt_memrowset.specs.Writes.{IsFresh, Extends}
use Rattle.kt_memrowset.proofs.Links.{link_bytes, length-spelling, length-cells}
use Rattle.kt_memrowset.proofs.Chains.{link_kept}
use Rattle.kt_memrowset.proofs.Trails.{leads_same, cells_kept, trail_stands}
use Rattle.kt_memrowset.proofs.Rows.{get_some, get_none, in_row_found, hist_found, hist_there, hist_lacking}
use Rattle.kt_memrowset.proofs.Splits.{at_key, Found, Lacking, found, lacking, put_found, put_lacking}
use Rattle.kt_memrowset.proofs.Frames.{in_rows-append, is_still, store_still, had_still, owns_back, owns_on}
use Rattle.kt_memrowset.proofs.Joining.{told_by, Grows, trail_grown, rows_grown, store_grown}

zero_or : (n : ℕ) → (0 < n → ⊥) → n ≡ 0
zero_or n never = elim (cases_lt 0 n) [ inl some ↦ absurd (never some) | inr none ↦ omega arith ]

-- a key that was not there takes its cells
pub insert_takes : (p1 p2 : Contents) (k key : List ℕ) (es : List Entry) (r : Option Place) → k ≡ key → value_of key es ≡ None → r ≡ option_map trees.place_at (value_of k es) → Takes p1 p2 (cond (is_some r) 0 (trees.need k)) → Takes p1 p2 (trees.need key)
insert_takes p1 p2 k key es r e none is t =
    let gone : r ≡ None = is ∙ ap (λ k. option_map trees.place_at (value_of k es)) e ∙ ap (option_map trees.place_at) none in
    subst (λ n. Takes p1 p2 n) (ap (λ (r : Option Place). cond (is_some r) 0 (trees.need k)) gone ∙ ap trees.need e) t

pub share_covers : (op : RowOp) → trees.need op.key + link_need op.cells ≤ share op
share_covers op = omega arith

-- the cells of the nodes and keys
abbrev nodes_had : List Entry → ℕ
nodes_had es = sum_by (λ (e : Entry). trees.need e.key) es

-- a change takes what it needs
link_takes : (pool : Contents) (l : Link) → IsLink pool l → cells_for (length (bytes_at pool l.cell)) ≡ link_need l.cells
link_takes pool l here =
    let bytes = ap length (link_bytes pool l here) in
    let long = length-spelling l.head l.cells in
    let sums = length-cells l.cells in
    ap cells_for (omega arith)

-- the change is placed, and the store has not taken it yet
module _ (s : MemRowSet) (p0 p1 : Contents) (fresh : Link) (op : RowOp) (st : IsStore s p0) (vacant : at_cell p0 fresh.cell ≡ None) (others : (k : ℕ) → k ≢ fresh.cell → at_cell p1 k ≡ at_cell p0 k) (here : IsLink p1 fresh) (before : fresh.head.before ≡ s.newest) (same_cells : fresh.cells ≡ op.cells) (takes : Takes p0 p1 (link_need op.cells)) where
  stands0 : (k : ℕ) → Owns s p0 k → Stands p0 k
  stands0 k o = elim o [ inl t ↦ owned s.tree p0 k st.tree t | inr low ↦ trail_stands p0 s.newest (trail s p0) k st.trails low ]

  pub not_owned : ¬ Owns s p0 fresh.cell
  not_owned o = false≢true (sym (ap is_some vacant) ∙ stands0 fresh.cell o)

  same1 : (k : ℕ) → Owns s p0 k → at_cell p1 k ≡ at_cell p0 k
  same1 k o = others k (λ e. not_owned (subst (Owns s p0) e o))

  pub store1 : IsStore s p1
  store1 = is_still s p0 p1 st same1

  not_owned1 : ¬ Owns s p1 fresh.cell
  not_owned1 o = not_owned (owns_back s p0 p1 st same1 fresh.cell o)

  pub apart1 : times (trail s p1) fresh.cell ≡ 0
  apart1 = zero_or (times (trail s p1) fresh.cell) (λ low. not_owned1 (inr low))

  rows1 : store_of s p1 ≡ store_of s p0
  rows1 = store_still s p0 p1 st same1

  entries1 : trees.entries s.tree p1 ≡ trees.entries s.tree p0
  entries1 = still_entries s.tree p0 p1 st.tree (λ k own. same1 k (inl own))

  -- the seat of a key is where it was
  pub seat1 : (key : List ℕ) (seat : Seat) → trees.IsSeat s.tree p0 key seat → trees.IsSeat s.tree p1 key seat
  seat1 = still_seat s.tree p0 p1 st.tree (λ k own. same1 k (inl own))

  -- the key is found where it was, if it was there
  pub found1 : (first : Place) → Some first ≡ option_map trees.place_at (value_of op.key (trees.entries s.tree p0)) → value_of op.key (trees.entries s.tree p1) ≡ Some first.cell
  found1 first e = ap (value_of op.key) entries1 ∙ get_some (value_of op.key (trees.entries s.tree p0)) first e

  pub lacks1 : None ≡ option_map trees.place_at (value_of op.key (trees.entries s.tree p0)) → value_of op.key (trees.entries s.tree p1) ≡ None
  lacks1 e = ap (value_of op.key) entries1 ∙ get_none (value_of op.key (trees.entries s.tree p0)) e

  ts : ℕ
  ts = fresh.head.ts

  -- the tree, too, has what it is to have
  module _ (t : MemRowSet) (p2 : Contents) (xs mid ys : List Entry) (first : ℕ) (links : List Link) (g : Grows s t p1 p2 fresh op.key xs mid ys first links)
      (tree_keeps : (k : ℕ) → trees.Owns s.tree p1 k → trees.Owns t.tree p2 k)
      (tree_grows : (k : ℕ) → trees.Owns t.tree p2 k → trees.Owns s.tree p1 k ⊎ (at_cell p1 k ≡ None))
      (tree_frame : (k : ℕ) → ¬ trees.Owns t.tree p2 k → times (trail s p1) k ≡ 0 → at_cell p2 k ≡ at_cell p1 k)
      (puts : put_key key_cmp op.key (hist_of links) (store_of s p1) ≡ map (row_at p1) xs ++ (op.key, hist_of links) ∷ map (row_at p1) ys)
      (hist : hist_of links ≡ push fresh.head.ts (change_by fresh.head.kind op) (hist_in op.key (store_of s p1)))
      (all_takes : Takes p0 p2 (cells_taken op (store_of s p0))) (number : t.id ≡ s.id) (frozen : t.frozen ≡ s.frozen)
      (more : ℕ) (nodes : nodes_had (trees.entries t.tree p2) ≡ nodes_had (trees.entries s.tree p1) + more) (taken : cells_taken op (store_of s p0) ≡ link_need op.cells + more) where
    trail2 : (k : ℕ) → times (trail t p2) k ≡ times (fresh.cell ∷ trail s p1) k
    trail2 k = ap (λ c. times c k) (trail_grown s t p1 p2 fresh op.key xs mid ys first links store1 g)

    keeps : (k : ℕ) → Owns s p0 k → Owns t p2 k
    keeps k o = elim (owns_on s p0 p1 st same1 k o) [ inl own ↦ inl (tree_keeps k own) | inr low ↦ inr (let e = trail2 k in omega arith) ]

    none0 : (k : ℕ) → at_cell p1 k ≡ None → at_cell p0 k ≡ None
    none0 k none = elim (cases_eq k fresh.cell) [ inl same ↦ ap (at_cell p0) same ∙ vacant | inr other ↦ sym (others k other) ∙ none ]

    grows : (k : ℕ) → Owns t p2 k → Owns s p0 k ⊎ (at_cell p0 k ≡ None)
    grows k o = elim o [
      | inl own ↦ elim (tree_grows k own) [ inl was ↦ inl (owns_back s p0 p1 st same1 k (inl was)) | inr none ↦ inr (none0 k none) ]
      | inr low ↦ elim (cases_eq fresh.cell k) [
        | inl same ↦ inr (ap (at_cell p0) (sym same) ∙ vacant)
        | inr other ↦ inl (owns_back s p0 p1 st same1 k (inr (let e = trail2 k in let z = one_other fresh.cell k other in omega arith)))
      ]
    ]

    frame : (k : ℕ) → ¬ Owns t p2 k → at_cell p2 k ≡ at_cell p0 k
    frame k none =
        let e = trail2 k in
        let z : times (trail t p2) k ≡ 0 = zero_or (times (trail t p2) k) (λ low. none (inr low)) in
        tree_frame k (λ own. none (inl own)) (omega arith) ∙ others k (λ same. let o = one_same fresh.cell k (sym same) in absurd (omega arith))

    had : cells_had t p2 ≡ cells_had s p0 + cells_taken op (store_of s p0)
    had =
        let changes = ap (cells_at p2) (trail_grown s t p1 p2 fresh op.key xs mid ys first links store1 g) in
        let first = link_takes p2 fresh g.here in
        let named = ap link_need same_cells in
        let kept = cells_kept p1 p2 (trail s p1) g.leads in
        let was = had_still s p0 p1 st same1 in
        omega arith

    pub joins : Joins s t p0 p2 op fresh.head.ts fresh.head.kind
    joins = record {
      stands = store_grown s t p1 p2 fresh op.key xs mid ys first links store1 g;
      joined =
          rows_grown s t p1 p2 fresh op.key xs mid ys first links store1 g ∙ sym puts ∙ ap (λ h. put_key key_cmp op.key h (store_of s p1)) hist
          ∙ ap (λ store. put_key key_cmp op.key (push fresh.head.ts (change_by fresh.head.kind op) (hist_in op.key store)) store) rows1;
      takes = all_takes;
      had = had;
      keeps = keeps;
      grows = grows;
      frame = frame;
      number = number;
      frozen = frozen;
    }

  -- what the history of the key is
  module _ (fit : fits (change_by fresh.head.kind op) (last_row (hist_in op.key (store_of s p0))) ≡ true) (ends : fresh.head.next ≡ nothing) (alone : fresh.head.last ≡ nothing) where
    step_is : step_of fresh ≡ (fresh.head.ts, change_by fresh.head.kind op)
    step_is = ap (λ cells. (fresh.head.ts, change_of fresh.head.kind cells)) same_cells

    module _ (h : Hist) (hist_is : hist_in op.key (store_of s p1) ≡ h) where
      hist0 : hist_in op.key (store_of s p0) ≡ h
      hist0 = ap (hist_in op.key) (sym rows1) ∙ hist_is

      fit1 : fits (change_of fresh.head.kind fresh.cells) (last_row h) ≡ true
      fit1 = ap (λ cells. fits (change_of fresh.head.kind cells) (last_row h)) same_cells ∙ ap (λ h. fits (change_by fresh.head.kind op) (last_row h)) (sym hist0) ∙ fit

    -- the key is there
    module _ (first : ℕ) (f : value_of op.key (trees.entries s.tree p1) ≡ Some first) where
      in_trail : (k : ℕ) → times (cells_of (chain p1 first)) k ≤ times (trail s p1) k
      in_trail k = let a = in_row_found p1 op.key (trees.entries s.tree p1) first k f in let w = store1.within k in omega arith

      pub is_fresh : IsFresh p1 (chain p1 first) fresh
      is_fresh = record { stands = here; ends = ends; apart = let i = in_trail fresh.cell in let a = apart1 in omega arith }

      hist_first : hist_in op.key (store_of s p1) ≡ hist_of (chain p1 first)
      hist_first = hist_there p1 op.key (trees.entries s.tree p1) first f

      module _ (p2 : Contents) (x : Extends p1 p2 first (chain p1 first) fresh) where
        t : MemRowSet
        t = record { id = s.id; frozen = s.frozen; tree = s.tree; newest = fresh.cell }

        fd : Found op.key first (trees.entries s.tree p1)
        fd = found op.key first (trees.entries s.tree p1) store1.tree.rising f

        tree_same : (k : ℕ) → trees.Owns s.tree p1 k → at_cell p2 k ≡ at_cell p1 k
        tree_same k own = x.others k (zero_or (times (cells_of (chain p1 first)) k) (λ low. store1.beside k (let i = in_trail k in omega arith) own))

        counted : (k : ℕ) → in_rows p1 fd.before k + (times (cells_of (chain p1 first)) k + in_rows p1 fd.after k) ≤ 1
        counted k =
            let e = ap (λ es. in_rows p1 es k) fd.is in let a = in_rows-append p1 fd.before (at_key op.key first ∷ fd.after) k in
            let w = store1.within k in let o = store1.once k in omega arith

        grown : Grows s (record { id = s.id; frozen = s.frozen; tree = s.tree; newest = fresh.cell }) p1 p2 fresh op.key fd.before (at_key op.key first ∷ []) fd.after first x.longer
        grown = record {
          was = fd.is;
          is = still_entries s.tree p1 p2 store1.tree tree_same ∙ fd.is;
          tree = still_tree s.tree p1 p2 store1.tree tree_same;
          newest = refl;
          chains = x.stands;
          marked = x.marked;
          told = told_by x.longer (steps_of (chain p1 first)) fresh x.steps x.kind (fit1 (hist_of (chain p1 first)) hist_first);
          cells = λ k. let e = x.cells k in omega arith;
          kept = λ k low. x.others k (let c = counted k in omega arith);
          leads = λ k low. x.leads k;
          here = link_kept p1 p2 fresh (x.others fresh.cell is_fresh.apart) here;
          before = before;
          apart = apart1;
          beside = λ k low own. store1.beside k low (still_owns s.tree p1 p2 store1.tree tree_same k own);
          beside_fresh = λ own. not_owned1 (inl (still_owns s.tree p1 p2 store1.tree tree_same fresh.cell own));
        }

        there : is_some (find_key key_cmp op.key (store_of s p0)) ≡ true
        there = ap (λ store. is_some (find_key key_cmp op.key store)) (sym rows1) ∙ ap is_some (hist_found p1 op.key (trees.entries s.tree p1) ∙ ap (option_map (λ v. hist_of (chain p1 v))) f)

        pub joins_there : Joins s (record { id = s.id; frozen = s.frozen; tree = s.tree; newest = fresh.cell }) p0 p2 op fresh.head.ts fresh.head.kind
        joins_there =
            let n : cells_taken op (store_of s p0) ≡ link_need op.cells + 0 = ap (λ b. link_need op.cells + cond b 0 (trees.need op.key)) there in
            joins (record { id = s.id; frozen = s.frozen; tree = s.tree; newest = fresh.cell }) p2 fd.before (at_key op.key first ∷ []) fd.after first x.longer grown
            (owns_still s.tree p1 p2 store1.tree tree_same)
            (λ k own. inl (still_owns s.tree p1 p2 store1.tree tree_same k own))
            (λ k none away. x.others k (let i = in_trail k in omega arith))
            (put_found p1 op.key first (trees.entries s.tree p1) (hist_of x.longer) fd)
            (ap (λ steps. record { first = None; steps = steps }) (x.steps ∙ ap (λ c. steps_of (chain p1 first) ++ c ∷ []) step_is) ∙ ap (push fresh.head.ts (change_by fresh.head.kind op)) (sym hist_first))
            (record {
              size = x.size ∙ takes.size;
              reserved = let a = x.reserved in let b = takes.reserved in omega arith;
              used = let a = x.used in let b = takes.used in omega arith;
            })
            refl refl 0 (let same = ap nodes_had (still_entries s.tree p1 p2 store1.tree tree_same) in omega arith) n

    -- the key is new
    module _ (f : value_of op.key (trees.entries s.tree p1) ≡ None) (tree2 : Tree) (p2 : Contents) (is_tree : trees.IsTree tree2 p2) (puts : trees.entries tree2 p2 ≡ put op.key fresh.cell (trees.entries s.tree p1))
        (tree_keeps : (k : ℕ) → trees.Owns s.tree p1 k → trees.Owns tree2 p2 k) (tree_grows : (k : ℕ) → trees.Owns tree2 p2 k → trees.Owns s.tree p1 k ⊎ (at_cell p1 k ≡ None)) (tree_frame : (k : ℕ) → ¬ trees.Owns tree2 p2 k → at_cell p2 k ≡ at_cell p1 k)
        (tree_takes : Takes p1 p2 (trees.need op.key)) where
      lk : Lacking op.key fresh.cell (trees.entries s.tree p1)
      lk = lacking op.key fresh.cell (trees.entries s.tree p1) store1.tree.rising f

      away : (k : ℕ) → Stands p1 k → ¬ trees.Owns s.tree p1 k → ¬ trees.Owns tree2 p2 k
      away k s1 none own = elim (tree_grows k own) [ inl was ↦ none was | inr vacant1 ↦ false≢true (sym (ap is_some vacant1) ∙ s1) ]

      trail_away : (k : ℕ) → 0 < times (trail s p1) k → ¬ trees.Owns tree2 p2 k
      trail_away k low = away k (trail_stands p1 s.newest (trail s p1) k store1.trails low) (store1.beside k low)

      fresh_away : ¬ trees.Owns tree2 p2 fresh.cell
      fresh_away = away fresh.cell (stands_some p1 fresh.cell (spelling fresh.head fresh.cells) here.bytes) (λ own. not_owned1 (inl own))

      counted2 : (k : ℕ) → in_rows p1 lk.before k + in_rows p1 lk.after k ≤ times (trail s p1) k
      counted2 k = let e = ap (λ es. in_rows p1 es k) lk.is in let a = in_rows-append p1 lk.before lk.after k in let w = store1.within k in omega arith

      here2 : IsLink p2 fresh
      here2 = link_kept p1 p2 fresh (tree_frame fresh.cell fresh_away) here

      hist_none : hist_in op.key (store_of s p1) ≡ record { first = None; steps = [] }
      hist_none = hist_lacking p1 op.key (trees.entries s.tree p1) f

      grown2 : Grows s (record { id = s.id; frozen = s.frozen; tree = tree2; newest = fresh.cell }) p1 p2 fresh op.key lk.before [] lk.after fresh.cell (fresh ∷ [])
      grown2 = record {
        was = lk.is;
        is = puts ∙ lk.put_is;
        tree = is_tree;
        newest = refl;
        chains = (refl, here2, ends);
        marked = alone;
        told = told_by (fresh ∷ []) [] fresh refl refl (fit1 (record { first = None; steps = [] }) hist_none);
        cells = λ k. omega arith;
        kept = λ k low. tree_frame k (trail_away k (let c = counted2 k in omega arith));
        leads = λ k low. leads_same p1 p2 k (tree_frame k (trail_away k low));
        here = here2;
        before = before;
        apart = apart1;
        beside = trail_away;
        beside_fresh = fresh_away;
      }

      lacks : is_some (find_key key_cmp op.key (store_of s p0)) ≡ false
      lacks = ap (λ store. is_some (find_key key_cmp op.key store)) (sym rows1) ∙ ap is_some (hist_found p1 op.key (trees.entries s.tree p1) ∙ ap (option_map (λ v. hist_of (chain p1 v))) f)

      nodes2 : nodes_had (trees.entries tree2 p2) ≡ nodes_had (trees.entries s.tree p1) + trees.need op.key
      nodes2 =
          let f : Entry → ℕ = λ e. trees.need e.key in
          let was = ap nodes_had lk.is in
          let is = ap nodes_had (puts ∙ lk.put_is) in
          let split_was = sum_by-append f lk.before lk.after in
          let split_is = sum_by-append f lk.before (at_key op.key fresh.cell ∷ lk.after) in
          let one = sum_by-cons f (at_key op.key fresh.cell) lk.after in
          omega arith

      pub joins_new : Joins s (record { id = s.id; frozen = s.frozen; tree = tree2; newest = fresh.cell }) p0 p2 op fresh.head.ts fresh.head.kind
      joins_new =
          let n : cells_taken op (store_of s p0) ≡ link_need op.cells + trees.need op.key = ap (λ b. link_need op.cells + cond b 0 (trees.need op.key)) lacks in
          joins (record { id = s.id; frozen = s.frozen; tree = tree2; newest = fresh.cell }) p2 lk.before [] lk.after fresh.cell (fresh ∷ []) grown2
          tree_keeps tree_grows (λ k none far. tree_frame k none)
          (put_lacking p1 op.key fresh.cell (trees.entries s.tree p1) (hist_of (fresh ∷ [])) lk)
          (ap (λ c. record { first = None; steps = c ∷ [] }) step_is ∙ ap (push fresh.head.ts (change_by fresh.head.kind op)) (sym hist_none))
          (record {
            size = tree_takes.size ∙ takes.size;
            reserved = let a = tree_takes.reserved in let b = takes.reserved in omega arith;
            used = let a = tree_takes.used in let b = takes.used in omega arith;
          })
          refl refl (trees.need op.key) nodes2 n
