-- Rows and stores where their places have not changed.
use Rattle.std.proofs.Common.{◌≡◌, ℕ, ◌+◌, ◌<◌, ◌≤◌, inl, inr, List, [], ◌∷◌, ◌++◌, map, refl, sym, ap, subst, ◌∙◌, arith}
use Rattle.std.specs.List.{sum_by}
use Rattle.kt_pool.specs.Contents.{Contents, at_cell}
use Rattle.kt_tree.specs.Entries.{Entry}
use Rattle.kt_tree.specs.Trees as trees
use Rattle.kt_tree.proofs.Callers.{still_tree, still_entries, still_owns, owns_still}
use Rattle.kt_memrowset.specs.declared.store.MemRowSet.{MemRowSet}
use Rattle.kt_memrowset.specs.Links.{chain, cells_of, times}
use Rattle.kt_memrowset.specs.Stores.{hist_of, row_at, store_of, RowStands, EachValue, in_rows, Trails, trail, cells_at, cells_had, Owns, IsStore}
use Rattle.kt_memrowset.proofs.Chains.{chain_kept, chain_is}
use Rattle.kt_memrowset.proofs.Trails.{leads_same, trail_kept, cells_kept, trail_is}

-- each row stands at both
abbrev pub RowsStand : Contents → List Entry → Type 0
RowsStand pool es = EachValue (λ cell. RowStands pool cell (chain pool cell)) es

pub in_rows-append : (pool : Contents) (xs ys : List Entry) (k : ℕ) → in_rows pool (xs ++ ys) k ≡ in_rows pool xs k + in_rows pool ys k
in_rows-append pool [] ys k = omega arith
in_rows-append pool (x ∷ xs) ys k = let e = in_rows-append pool xs ys k in omega arith

pub rows_left : (pool : Contents) (xs ys : List Entry) → RowsStand pool (xs ++ ys) → RowsStand pool xs
rows_left pool [] ys h = tt
rows_left pool (x ∷ xs) ys h = (h.0, rows_left pool xs ys h.1)

pub rows_right : (pool : Contents) (xs ys : List Entry) → RowsStand pool (xs ++ ys) → RowsStand pool ys
rows_right pool [] ys h = h
rows_right pool (x ∷ xs) ys h = rows_right pool xs ys h.1

pub rows_both : (pool : Contents) (xs ys : List Entry) → RowsStand pool xs → RowsStand pool ys → RowsStand pool (xs ++ ys)
rows_both pool [] ys h k = k
rows_both pool (x ∷ xs) ys h k = (h.0, rows_both pool xs ys h.1 k)

-- the same rows stand at both
pub record SameRows (old new : Contents) (es : List Entry) : Type 0 where
  pub stand : RowsStand new es
  pub rows : map (row_at new) es ≡ map (row_at old) es
  pub cells : (k : ℕ) → in_rows new es k ≡ in_rows old es k

pub rows_kept : (old new : Contents) (es : List Entry) → RowsStand old es → ((k : ℕ) → in_rows old es k ≤ 1) → ((k : ℕ) → 0 < in_rows old es k → at_cell new k ≡ at_cell old k) → SameRows old new es
rows_kept old new [] h once same = record { stand = tt; rows = refl; cells = λ k. refl }
rows_kept old new (e ∷ es) h once same =
    let more = rows_kept old new es h.1 (λ k. let o = once k in omega arith) (λ k low. same k (omega arith)) in
    let here = chain_kept old new e.value (chain old e.value) h.0.chains (λ k low. same k (omega arith)) in
    let is : chain new e.value ≡ chain old e.value = chain_is new e.value (chain old e.value) here (λ k. let o = once k in omega arith) in
    record {
      stand = (subst (RowStands new e.value) (sym is) (record { chains = here; marked = h.0.marked; told = h.0.told }), more.stand);
      rows = ap (λ c. (e.key, hist_of c) ∷ map (row_at new) es) is ∙ ap (λ xs. row_at old e ∷ xs) more.rows;
      cells = λ k. let m = more.cells k in let c = ap (λ c. times (cells_of c) k) is in omega arith;
    }

pub rows_once : (s : MemRowSet) (pool : Contents) (st : IsStore s pool) (k : ℕ) → in_rows pool (trees.entries s.tree pool) k ≤ 1
rows_once s pool st k = let a = st.within k in let b = st.once k in omega arith

-- where no place of a store has changed, it stands as it was
module _ (s : MemRowSet) (old new : Contents) (st : IsStore s old) (same : (k : ℕ) → Owns s old k → at_cell new k ≡ at_cell old k) where
  tree_same : (k : ℕ) → trees.Owns s.tree old k → at_cell new k ≡ at_cell old k
  tree_same k o = same k (inl o)

  pub entries_still : trees.entries s.tree new ≡ trees.entries s.tree old
  entries_still = still_entries s.tree old new st.tree tree_same

  rows_same : SameRows old new (trees.entries s.tree old)
  rows_same = rows_kept old new (trees.entries s.tree old) st.rows (rows_once s old st) (λ k low. same k (inr (let w = st.within k in omega arith)))

  trail_stays : Trails new s.newest (trail s old)
  trail_stays = trail_kept old new s.newest (trail s old) st.trails (λ k low. leads_same old new k (same k (inr low)))

  pub trail_still : trail s new ≡ trail s old
  trail_still = trail_is new s.newest (trail s old) trail_stays st.once

  pub had_still : cells_had s new ≡ cells_had s old
  had_still =
      let nodes = ap (λ es. sum_by (λ (e : Entry). trees.need e.key) es) entries_still in
      let changes = ap (cells_at new) trail_still in
      let kept = cells_kept old new (trail s old) (λ k low. leads_same old new k (same k (inr low))) in
      omega arith

  pub store_still : store_of s new ≡ store_of s old
  store_still = ap (map (row_at new)) entries_still ∙ rows_same.rows

  pub owns_back : (k : ℕ) → Owns s new k → Owns s old k
  owns_back k o = elim o [
    | inl t ↦ inl (still_owns s.tree old new st.tree tree_same k t)
    | inr low ↦ inr (let e = ap (λ c. times c k) trail_still in omega arith)
  ]

  pub owns_on : (k : ℕ) → Owns s old k → Owns s new k
  owns_on k o = elim o [
    | inl t ↦ inl (owns_still s.tree old new st.tree tree_same k t)
    | inr low ↦ inr (let e = ap (λ c. times c k) trail_still in omega arith)
  ]

  pub is_still : IsStore s new
  is_still = record {
    tree = still_tree s.tree old new st.tree tree_same;
    rows = subst (RowsStand new) (sym entries_still) rows_same.stand;
    trails = subst (Trails new s.newest) (sym trail_still) trail_stays;
    once = λ k. let e = ap (λ c. times c k) trail_still in let o = st.once k in omega arith;
    beside = λ k low own. st.beside k (let e = ap (λ c. times c k) trail_still in omega arith) (still_owns s.tree old new st.tree tree_same k own);
    within = λ k. let e = ap (λ c. times c k) trail_still in let f = ap (λ es. in_rows new es k) entries_still in let g = rows_same.cells k in let w = st.within k in omega arith;
  }
