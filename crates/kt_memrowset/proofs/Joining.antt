-- A store with one change more.
use Rattle.std.proofs.Common.{◌≡◌, ℕ, ◌+◌, ◌<◌, ◌≤◌, inl, inr, true, List, [], ◌∷◌, ◌++◌, map, Some, None, Option, refl, sym, ap, subst, ◌∙◌, arith}
use Rattle.std.specs.Prelude.{is_some}
use Rattle.std.proofs.lemmas.Bool.{cases_eq, false≢true}
use Rattle.std.proofs.lemmas.List.{map-append}
use Rattle.kt_history.specs.Rows.{Row, apply, fits}
use Rattle.kt_history.specs.declared.target.Kindly.{Kindly}
use Rattle.kt_history.specs.declared.target.Kindly.TheVariants.{Ins, Upd, Del}
use Rattle.kt_history.specs.Stores.{Steps, apply_all, change_of}
use Rattle.kt_pool.specs.Contents.{Contents, at_cell}
use Rattle.kt_tree.specs.Entries.{Entry}
use Rattle.kt_tree.specs.Trees as trees
use Rattle.kt_tree.proofs.Places.{one_other}
use Rattle.kt_memrowset.specs.declared.link.Head.{Head}
use Rattle.kt_memrowset.specs.declared.store.MemRowSet.{MemRowSet}
use Rattle.kt_memrowset.specs.Links.{Link, IsLink, Chains, chain, cells_of, times, newest_kind, IsMarked, step_of, steps_of}
use Rattle.kt_memrowset.specs.Stores.{hist_of, row_at, store_of, stays, IsTold, RowStands, in_rows, before_at, Trails, trail, IsStore}
use Rattle.kt_memrowset.specs.Writes.{LeadsOn}
use Rattle.kt_memrowset.proofs.Links.{link_head}
use Rattle.kt_memrowset.proofs.Chains.{chain_is}
use Rattle.kt_memrowset.proofs.Trails.{trail_kept, trail_is}
use Rattle.kt_memrowset.proofs.Extending.{once_grown, long_link}
use Rattle.kt_memrowset.proofs.Splits.{at_key}
use Rattle.kt_memrowset.proofs.Frames.{RowsStand, in_rows-append, rows_left, rows_right, rows_both, SameRows, rows_kept}

-- ---- the last change tells

fitted : (kind : Kindly) (cells : Row) (row : Option Row) → fits (change_of kind cells) row ≡ true → is_some (apply (change_of kind cells) row) ≡ stays kind
fitted Ins cells None e = refl
fitted Ins cells (Some row) e = absurd (false≢true e)
fitted Upd cells None e = absurd (false≢true e)
fitted Upd cells (Some row) e = refl
fitted Del cells row e = refl

apply_all-append : (steps more : Steps) (row : Option Row) → apply_all (steps ++ more) row ≡ apply_all more (apply_all steps row)
apply_all-append [] more row = refl
apply_all-append (c ∷ steps) more row = apply_all-append steps more (apply c.1 row)

pub told_by : (links : List Link) (steps : Steps) (fresh : Link) → steps_of links ≡ steps ++ step_of fresh ∷ [] → newest_kind links ≡ fresh.head.kind → fits (change_of fresh.head.kind fresh.cells) (apply_all steps None) ≡ true → IsTold links
told_by [] steps fresh e k fit = tt
told_by (l ∷ links) steps fresh e k fit =
    ap (λ steps. is_some (apply_all steps None)) e ∙ ap is_some (apply_all-append steps (step_of fresh ∷ []) None) ∙ fitted fresh.head.kind fresh.cells (apply_all steps None) fit ∙ ap stays (sym k)

-- ---- the store that has grown

pub record Grows (s t : MemRowSet) (old new : Contents) (fresh : Link) (key : List ℕ) (xs mid ys : List Entry) (first : ℕ) (links : List Link) : Type 0 where
  pub was : trees.entries s.tree old ≡ xs ++ (mid ++ ys)
  pub is : trees.entries t.tree new ≡ xs ++ at_key key first ∷ ys
  pub tree : trees.IsTree t.tree new
  pub newest : t.newest ≡ fresh.cell
  pub chains : Chains new first links
  pub marked : IsMarked links
  pub told : IsTold links
  pub cells : (k : ℕ) → times (cells_of links) k ≡ in_rows old mid k + times (fresh.cell ∷ []) k
  pub kept : (k : ℕ) → 0 < in_rows old xs k + in_rows old ys k → at_cell new k ≡ at_cell old k
  pub leads : (k : ℕ) → 0 < times (trail s old) k → LeadsOn old new k
  pub here : IsLink new fresh
  pub before : fresh.head.before ≡ s.newest
  pub apart : times (trail s old) fresh.cell ≡ 0
  pub beside : (k : ℕ) → 0 < times (trail s old) k → ¬ trees.Owns t.tree new k
  pub beside_fresh : ¬ trees.Owns t.tree new fresh.cell

module _ (s t : MemRowSet) (old new : Contents) (fresh : Link) (key : List ℕ) (xs mid ys : List Entry) (first : ℕ) (links : List Link) (st : IsStore s old) (g : Grows s t old new fresh key xs mid ys first links) where
  longer_trail : Trails new t.newest (fresh.cell ∷ trail s old)
  longer_trail =
      let b : before_at new fresh.cell ≡ s.newest = ap (λ (h : Head). h.before) (link_head new fresh g.here) ∙ g.before in (
        g.newest,
        g.here.inside,
        long_link new fresh g.here,
        subst (λ c. Trails new c (trail s old)) (sym b) (trail_kept old new s.newest (trail s old) st.trails g.leads),
      )

  longer_once : (k : ℕ) → times (fresh.cell ∷ trail s old) k ≤ 1
  longer_once k = let o = once_grown (trail s old) fresh.cell k g.apart (st.once k) in omega arith

  pub trail_grown : trail t new ≡ fresh.cell ∷ trail s old
  trail_grown = trail_is new t.newest (fresh.cell ∷ trail s old) longer_trail longer_once

  counts : (k : ℕ) → in_rows old xs k + (in_rows old mid k + in_rows old ys k) ≤ times (trail s old) k
  counts k =
      let e = ap (λ es. in_rows old es k) g.was in let a = in_rows-append old xs (mid ++ ys) k in let b = in_rows-append old mid ys k in let w = st.within k in omega arith

  rows_was : RowsStand old (xs ++ (mid ++ ys))
  rows_was = subst (RowsStand old) g.was st.rows

  xs_same : SameRows old new xs
  xs_same = rows_kept old new xs (rows_left old xs (mid ++ ys) rows_was) (λ k. let c = counts k in let o = st.once k in omega arith) (λ k low. g.kept k (omega arith))

  ys_same : SameRows old new ys
  ys_same = rows_kept old new ys (rows_right old mid ys (rows_right old xs (mid ++ ys) rows_was)) (λ k. let c = counts k in let o = st.once k in omega arith) (λ k low. g.kept k (omega arith))

  chain_grown : chain new first ≡ links
  chain_grown = chain_is new first links g.chains (λ k. let c = counts k in let e = g.cells k in let o = longer_once k in omega arith)

  first_row : RowStands new first (chain new first)
  first_row = subst (RowStands new first) (sym chain_grown) (record { chains = g.chains; marked = g.marked; told = g.told })

  pub rows_grown : store_of t new ≡ map (row_at old) xs ++ (key, hist_of links) ∷ map (row_at old) ys
  rows_grown =
      ap (map (row_at new)) g.is ∙ map-append (row_at new) xs (at_key key first ∷ ys)
      ∙ ap (λ rows. rows ++ (key, hist_of (chain new first)) ∷ map (row_at new) ys) xs_same.rows
      ∙ ap (λ c. map (row_at old) xs ++ (key, hist_of c) ∷ map (row_at new) ys) chain_grown
      ∙ ap (λ rows. map (row_at old) xs ++ (key, hist_of links) ∷ rows) ys_same.rows

  pub store_grown : IsStore t new
  store_grown = record {
    tree = g.tree;
    rows = subst (RowsStand new) (sym g.is) (rows_both new xs (at_key key first ∷ ys) xs_same.stand (first_row, ys_same.stand));
    trails = subst (Trails new t.newest) (sym trail_grown) longer_trail;
    once = λ k. let e = ap (λ c. times c k) trail_grown in let o = longer_once k in omega arith;
    beside = λ k low own. elim (cases_eq fresh.cell k) [
      | inl same ↦ g.beside_fresh (subst (trees.Owns t.tree new) (sym same) own)
      | inr other ↦ g.beside k (let e = ap (λ c. times c k) trail_grown in let o = one_other fresh.cell k other in omega arith) own
    ];
    within = λ k.
        let e = ap (λ c. times c k) trail_grown in
        let f = ap (λ es. in_rows new es k) g.is in
        let a = in_rows-append new xs (at_key key first ∷ ys) k in
        let b = ap (λ c. times (cells_of c) k) chain_grown in
        let x = xs_same.cells k in let y = ys_same.cells k in
        let c = counts k in let d = g.cells k in
        omega arith;
  }
