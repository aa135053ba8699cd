-- The places of a store's changes, given back.
use Rattle.std.proofs.Common.{◌≡◌, ◌≢◌, ℕ, ◌+◌, ◌<◌, ◌≤◌, inl, inr, List, [], ◌∷◌, length, map, Some, None, Option, cond, Bool, true, false, refl, sym, ap, subst, ◌∙◌, arith}
use Rattle.std.specs.List.{find, sum_by}
use Rattle.std.specs.Option.{option_map}
use Rattle.std.proofs.lemmas.Bool.{cases_lt, cases_eq}
use Rattle.kt_pool.specs.Contents.{Contents, Stands, at_cell, bytes_at, with_place, used, cells_of, cells_for}
use Rattle.kt_pool.proofs.Callers.{at_same, at_other, size_same, reserved_after}
use Rattle.kt_pool.proofs.Standing.{stands_there}
use Rattle.kt_tree.specs.Entries.{Entry, is_past, is_after, next}
use Rattle.kt_tree.specs.Trees as trees
use Rattle.kt_tree.specs.declared.tree.Pair.{Pair}
use Rattle.kt_tree.specs.declared.tree.Tree.{Tree}
use Rattle.kt_tree.proofs.Callers.{still_tree, still_entries, still_owns, owns_still}
use Rattle.kt_tree.proofs.Places.{stands_inside, bytes_some, some_bytes, used_after, one_same, one_other}
use Rattle.kt_memrowset.specs.declared.store.MemRowSet.{MemRowSet}
use Rattle.kt_memrowset.specs.Links.{nothing, times}
use Rattle.kt_memrowset.specs.Stores.{row_at, store_of, in_rows, before_at, Trails, trail_at, trail, IsTrailAt, cells_at, Releases, Releasing, cells_had, Owns, IsStore, key_past}
use Rattle.kt_memrowset.proofs.Trails.{leads_same, trail_kept, cells_kept, trail_is}
use Rattle.kt_memrowset.proofs.Frames.{RowsStand}

pub release_starts : (old : Contents) (cells : List ℕ) (cell : ℕ) → IsTrailAt old cell cells → Releasing old old cells cell
release_starts old cells cell s = record { rest = cells; stand = s; size = refl; reserved = refl; fewer = refl; part = λ k. omega arith; gone = λ k low none. absurd (omega arith); frame = λ k none. refl }

long_at : (pool : Contents) (cell : ℕ) (rest : List ℕ) → cell ≢ nothing → Trails pool cell rest → 23 ≤ length (bytes_at pool cell)
long_at pool cell [] ne h = absurd (ne h)
long_at pool cell (c ∷ rest) ne h = let e = ap (λ c. length (bytes_at pool c)) h.0 in let l = h.2 in omega arith

pub release_long : (old now : Contents) (cells : List ℕ) (cell : ℕ) → cell ≢ nothing → Releasing old now cells cell → 23 ≤ length (bytes_at now cell)
release_long old now cells cell ne r = long_at now cell r.rest ne r.stand.trails

pub release_stands : (old now : Contents) (cells : List ℕ) (cell : ℕ) → cell ≢ nothing → Releasing old now cells cell → Stands now cell
release_stands old now cells cell ne r = let l = release_long old now cells cell ne r in stands_there now cell 0 (omega arith)

module _ (old now new : Contents) (cells : List ℕ) (cell before : ℕ) (ne : cell ≢ nothing) (is : before ≡ before_at now cell) (g : new ≡ with_place now cell None now.reserved) where
  rest_same : (c : ℕ) (rest : List ℕ) → IsTrailAt now cell (c ∷ rest) → (k : ℕ) → 0 < times rest k → at_cell new k ≡ at_cell now k
  rest_same c rest s k low = at_other now new cell None now.reserved g k (λ e. let a = one_same c k (sym s.trails.0 ∙ sym e) in let o = s.once k in absurd (omega arith))

  rest_stands : (c : ℕ) (rest : List ℕ) → IsTrailAt now cell (c ∷ rest) → IsTrailAt new before rest
  rest_stands c rest s = record {
    trails = subst (λ b. Trails new b rest) (ap (before_at now) (sym s.trails.0) ∙ sym is) (trail_kept now new (before_at now c) rest s.trails.3 (λ k low. leads_same now new k (rest_same c rest s k low)));
    once = λ k. let o = s.once k in omega arith;
  }

  here_there : (c : ℕ) (rest : List ℕ) → IsTrailAt now cell (c ∷ rest) → Stands now cell
  here_there c rest s = let l = long_at now cell (c ∷ rest) ne s.trails in stands_there now cell 0 (omega arith)

  -- the cells of this place are given back
  rest_fewer : (c : ℕ) (rest : List ℕ) → IsTrailAt now cell (c ∷ rest) → used new + cells_at now (c ∷ rest) ≡ used now + cells_at new rest
  rest_fewer c rest s =
      let there = here_there c rest s in
      let after = used_after now new cell None now.reserved g (stands_inside now cell there) in
      let here : cells_of (at_cell now cell) ≡ cells_for (length (bytes_at now cell)) = ap cells_of (some_bytes now cell there) in
      let first = ap (λ c. cells_for (length (bytes_at now c))) s.trails.0 in
      let kept = cells_kept now new rest (λ k low. leads_same now new k (rest_same c rest s k low)) in
      omega arith

  step_of : (rest : List ℕ) → IsTrailAt now cell rest → Releasing old now cells cell → used now + cells_at old cells ≡ used old + cells_at now rest → ((k : ℕ) → times rest k ≤ times cells k) → ((k : ℕ) → 0 < times cells k → times rest k ≡ 0 → at_cell now k ≡ None) → Releasing old new cells before
  step_of [] s r fewer part gone = absurd (ne s.trails)
  step_of (c ∷ rest) s r fewer part gone = record {
    rest = rest;
    stand = rest_stands c rest s;
    size = size_same now new cell None now.reserved g ∙ r.size;
    reserved = reserved_after now new cell None now.reserved g ∙ r.reserved;
    fewer = let f = rest_fewer c rest s in omega arith;
    part = λ k. let p = part k in omega arith;
    gone = λ k low none. elim (cases_eq k cell) [
      | inl same ↦ ap (at_cell new) same ∙ at_same now new cell None now.reserved g (stands_inside now cell (here_there c rest s))
      | inr other ↦ at_other now new cell None now.reserved g k other ∙ gone k low (let z = one_other c k (λ e. other (sym e ∙ sym s.trails.0)) in omega arith)
    ];
    frame = λ k none. at_other now new cell None now.reserved g k (λ e. let p = part k in let a = one_same c k (sym s.trails.0 ∙ sym e) in absurd (omega arith)) ∙ r.frame k none;
  }

  pub release_step : Releasing old now cells cell → Releasing old new cells before
  release_step r = step_of r.rest r.stand r r.fewer r.part r.gone

  fewer_of : (rest : List ℕ) → IsTrailAt now cell rest → length (trail_at new (length new.places) before) < length (trail_at now (length now.places) cell)
  fewer_of [] s = absurd (ne s.trails)
  fewer_of (c ∷ rest) s =
      let t = rest_stands c rest s in
      let a = ap length (trail_is now cell (c ∷ rest) s.trails s.once) in
      let b = ap length (trail_is new before rest t.trails t.once) in
      omega arith

  pub release_fewer : Releasing old now cells cell → length (trail_at new (length new.places) before) < length (trail_at now (length now.places) cell)
  release_fewer r = fewer_of r.rest r.stand

none_left : (pool : Contents) (cell : ℕ) (rest : List ℕ) → cell ≡ nothing → Trails pool cell rest → rest ≡ []
none_left pool cell [] e h = refl
none_left pool cell (c ∷ rest) e h = let i = h.1 in let f = h.0 in absurd (omega arith)

pub release_ends : (old now : Contents) (cells : List ℕ) (cell : ℕ) → cell ≡ nothing → Releasing old now cells cell → Releases old now cells
release_ends old now cells cell e r =
    let empty = none_left now cell r.rest e r.stand.trails in
    record {
      size = r.size;
      reserved = r.reserved;
      fewer = let f = r.fewer in let z = ap (cells_at now) empty in omega arith;
      gone = λ k low. r.gone k low (ap (λ rest. times rest k) empty);
      frame = r.frame;
    }

-- ---- a store that is emptied

pub bare_trail : (s : MemRowSet) (pool : Contents) → s.newest ≡ nothing → trail s pool ≡ []
bare_trail s pool e = trail_is pool s.newest [] e (λ k. omega arith)

module _ (s : MemRowSet) (pool : Contents) (tree : trees.IsTree s.tree pool) (empty : trees.entries s.tree pool ≡ []) (bare : (k : ℕ) → ¬ trees.Owns s.tree pool k) (e : s.newest ≡ nothing) where
  pub bare_owns : (k : ℕ) → ¬ Owns s pool k
  bare_owns k o = elim o [ inl t ↦ bare k t | inr low ↦ let f = ap (λ c. times c k) (bare_trail s pool e) in absurd (omega arith) ]

  pub bare_had : cells_had s pool ≡ 0
  bare_had =
      let nodes = ap (λ es. sum_by (λ (e : Entry). trees.need e.key) es) empty in
      let changes = ap (cells_at pool) (bare_trail s pool e) in
      omega arith

  pub bare_rows : store_of s pool ≡ []
  bare_rows = ap (map (row_at pool)) empty

  pub bare_store : IsStore s pool
  bare_store =
      let f = bare_trail s pool e in
      record {
        tree = tree;
        rows = subst (RowsStand pool) (sym empty) tt;
        trails = subst (Trails pool s.newest) (sym f) e;
        once = λ k. let g = ap (λ c. times c k) f in omega arith;
        beside = λ k low own. bare k own;
        within = λ k. let g = ap (λ es. in_rows pool es k) empty in omega arith;
      }

module _ (s : MemRowSet) (old p1 p2 : Contents) (st : IsStore s old) (r : Releases old p1 (trail s old)) where
  tree_same : (k : ℕ) → trees.Owns s.tree old k → at_cell p1 k ≡ at_cell old k
  tree_same k own = r.frame k (elim (cases_lt 0 (times (trail s old) k)) [ inl low ↦ absurd (st.beside k low own) | inr none ↦ omega arith ])

  pub tree_stays : trees.IsTree s.tree p1
  tree_stays = still_tree s.tree old p1 st.tree tree_same

  pub emptied_fewer : used p2 + sum_by (λ (e : Entry). trees.need e.key) (trees.entries s.tree p1) ≡ used p1 → used p2 + cells_had s old ≡ used old
  emptied_fewer fewer =
      let same = ap (λ es. sum_by (λ (e : Entry). trees.need e.key) es) (still_entries s.tree old p1 st.tree tree_same) in
      let changes = r.fewer in
      omega arith

  module _ (gone : (k : ℕ) → trees.Owns s.tree p1 k → at_cell p2 k ≡ None) (frame : (k : ℕ) → ¬ trees.Owns s.tree p1 k → at_cell p2 k ≡ at_cell p1 k) where
    pub emptied_gone : (k : ℕ) → Owns s old k → at_cell p2 k ≡ None
    emptied_gone k o = elim o [
      | inl own ↦ gone k (owns_still s.tree old p1 st.tree tree_same k own)
      | inr low ↦ frame k (λ own. st.beside k low (still_owns s.tree old p1 st.tree tree_same k own)) ∙ r.gone k low
    ]

    pub emptied_frame : (k : ℕ) → ¬ Owns s old k → at_cell p2 k ≡ at_cell old k
    emptied_frame k none =
        frame k (λ own. none (inl (still_owns s.tree old p1 st.tree tree_same k own)))
        ∙ r.frame k (elim (cases_lt 0 (times (trail s old) k)) [ inl low ↦ absurd (none (inr low)) | inr zero ↦ omega arith ])

-- ---- the next key

next_rows : (pool : Contents) (after : Option (List ℕ)) (es : List Entry) → find (λ row. is_past after row.0) (map (row_at pool) es) ≡ option_map (row_at pool) (next after es)
next_rows pool after [] = refl
next_rows pool after (e ∷ es) = by (is_after after e) (next_rows pool after es)
  where
    by : (b : Bool) → find (λ row. is_past after row.0) (map (row_at pool) es) ≡ option_map (row_at pool) (next after es) → cond b (Some (row_at pool e)) (find (λ row. is_past after row.0) (map (row_at pool) es)) ≡ option_map (row_at pool) (cond b (Some e) (next after es))
    by true h = refl
    by false h = h

some_key : (tree : Tree) (pool : Contents) (p : Pair) (o : Option Entry) → trees.IsPairOf tree pool (Some p) o → option_map (λ (e : Entry). e.key) o ≡ Some (bytes_at pool p.key.cell)
some_key tree pool p None h = absurd h
some_key tree pool p (Some e) h = ap (λ k. Some k) (sym (bytes_some pool p.key.cell e.key h.key))

none_key : (tree : Tree) (pool : Contents) (o : Option Entry) → trees.IsPairOf tree pool None o → option_map (λ (e : Entry). e.key) o ≡ None
none_key tree pool None h = refl
none_key tree pool (Some e) h = absurd h

keys_of : (pool : Contents) (o : Option Entry) → option_map (λ row. row.0) (option_map (row_at pool) o) ≡ option_map (λ (e : Entry). e.key) o
keys_of pool None = refl
keys_of pool (Some e) = refl

pub key_there : (s : MemRowSet) (pool : Contents) (after : Option (List ℕ)) (p : Pair) → trees.IsPairOf s.tree pool (Some p) (next after (trees.entries s.tree pool)) → key_past after (store_of s pool) ≡ Some (bytes_at pool p.key.cell)
key_there s pool after p h = ap (option_map (λ row. row.0)) (next_rows pool after (trees.entries s.tree pool)) ∙ keys_of pool (next after (trees.entries s.tree pool)) ∙ some_key s.tree pool p (next after (trees.entries s.tree pool)) h

pub key_none : (s : MemRowSet) (pool : Contents) (after : Option (List ℕ)) → trees.IsPairOf s.tree pool None (next after (trees.entries s.tree pool)) → key_past after (store_of s pool) ≡ None
key_none s pool after h = ap (option_map (λ row. row.0)) (next_rows pool after (trees.entries s.tree pool)) ∙ keys_of pool (next after (trees.entries s.tree pool)) ∙ none_key s.tree pool (next after (trees.entries s.tree pool)) h
