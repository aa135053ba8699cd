-- A row of a store: where it is found, and how its changes are read.
use Rattle.std.proofs.Common.{◌≡◌, ◌≢◌, ℕ, ◌-◌, ◌<◌, ◌≤◌, Bool, true, false, cond, List, [], ◌∷◌, length, take, drop, map, Result, Ok, Err, length-drop, Some, None, Option, refl, sym, ap, subst, ◌∙◌, arith}
use Rattle.std.specs.Prelude.{is_some, IfSome}
use Rattle.std.proofs.lemmas.List.{take_all}
use Rattle.std.specs.Option.{option_map, unwrap_or}
use Rattle.std.specs.List.{find}
use Rattle.std.specs.Ordering.{is_eq, ordering_reverse, eq_by_cmp}
use Rattle.std.specs.declared.cmp.Ordering.{Ordering}
use Rattle.std.specs.declared.cmp.Ordering.TheVariants.{Less, Equal, Greater}
use Rattle.std.specs.Cmp.Lexicographic.{nat_list_cmp_total}
use Rattle.std.specs.FinMap.Entries.{find as find_key}
use Rattle.kt_history.specs.Rows.{Row, key_cmp, fits}
use Rattle.kt_history.specs.declared.operation.OpKind.{OpKind}
use Rattle.kt_history.specs.declared.operation.OpKind.TheVariants.{Insert, Upsert, Update, Delete, InsertIgnore, UpdateIgnore, DeleteIgnore}
use Rattle.kt_history.specs.declared.operation.RowOp.{RowOp}
use Rattle.kt_history.specs.declared.target.Kindly.{Kindly}
use Rattle.kt_history.specs.Stores.{Hist, never, hist_in, after_steps, last_row, kind_made, change_of}
use Rattle.kt_histlaws.proofs.OneKey.{after_steps-append}
use Rattle.kt_pool.specs.Contents.{Contents, bytes_at}
use Rattle.kt_pool.specs.declared.place.Place.{Place}
use Rattle.kt_tree.specs.Entries.{Entry, order, is_at, value_of}
use Rattle.kt_tree.specs.Trees.{place_at, entries}
use Rattle.kt_memrowset.specs.declared.link.Head.{Head}
use Rattle.kt_cells.specs.Reading.{cells_at}
use Rattle.kt_memrowset.specs.Links.{nothing, Link, IsLink, link_at, head_of, Chains, chain, cells_of, times, newest, IsChainAt, step_of, steps_of}
use Rattle.kt_memrowset.specs.Stores.{hist_of, row_at, store_of, change_by, stays, RowStands, EachValue, in_rows, IsStore, Leads}
use Rattle.kt_memrowset.specs.Taking.{links_from}
use Rattle.kt_memrowset.specs.declared.store.MemRowSet.{MemRowSet}
use Rattle.kt_memrowset.proofs.Links.{link_bytes, length-spelling, link_head, link_cells, link_again}
use Rattle.kt_memrowset.proofs.Chains.{chain_is, newest_stands}

-- ---- what the tree says of a key

pub get_some : (o : Option ℕ) (p : Place) → Some p ≡ option_map place_at o → o ≡ Some p.cell
get_some None p e = cc
get_some (Some v) p e = let f : place_at v ≡ p = cc in ap (λ (p : Place). Some p.cell) f

pub get_none : (o : Option ℕ) → None ≡ option_map place_at o → o ≡ None
get_none None e = refl
get_none (Some v) e = cc

pub each_found : (P : ℕ → Type 0) (key : List ℕ) (es : List Entry) (v : ℕ) → value_of key es ≡ Some v → EachValue P es → P v
each_found P key [] v f each = let f2 : None ≡ Some v = f in cc
each_found P key (e ∷ es) v f each = by (is_at key e) (λ h. each_found P key es v h each.1) f
  where
    by : (b : Bool) → (value_of key es ≡ Some v → P v) → option_map (λ (e : Entry). e.value) (cond b (Some e) (find (is_at key) es)) ≡ Some v → P v
    by true more h = let same : e.value ≡ v = cc in subst P same each.0
    by false more h = more h

pub in_row_found : (pool : Contents) (key : List ℕ) (es : List Entry) (v k : ℕ) → value_of key es ≡ Some v → times (cells_of (chain pool v)) k ≤ in_rows pool es k
in_row_found pool key [] v k f = let f2 : None ≡ Some v = f in cc
in_row_found pool key (e ∷ es) v k f = by (is_at key e) (λ h. in_row_found pool key es v k h) f
  where
    by : (b : Bool) → (value_of key es ≡ Some v → times (cells_of (chain pool v)) k ≤ in_rows pool es k) → option_map (λ (e : Entry). e.value) (cond b (Some e) (find (is_at key) es)) ≡ Some v → times (cells_of (chain pool v)) k ≤ in_rows pool (e ∷ es) k
    by true more h = let same : e.value ≡ v = cc in let t = ap (λ v. times (cells_of (chain pool v)) k) same in omega arith
    by false more h = let r = more h in omega arith

-- the order of keys, turned round
turned : (a b : List ℕ) → eq_by_cmp key_cmp a b ≡ is_eq (order b a)
turned a b = by (order b a) (nat_list_cmp_total.antisymm a b)
  where
    by : (o : Ordering) → key_cmp a b ≡ ordering_reverse o → eq_by_cmp key_cmp a b ≡ is_eq o
    by Less e = ap is_eq e
    by Equal e = ap is_eq e
    by Greater e = ap is_eq e

pub hist_found : (pool : Contents) (key : List ℕ) (es : List Entry) → find_key key_cmp key (map (row_at pool) es) ≡ option_map (λ v. hist_of (chain pool v)) (value_of key es)
hist_found pool key [] = refl
hist_found pool key (e ∷ es) =
    ap (λ b. cond b (Some (hist_of (chain pool e.value))) (find_key key_cmp key (map (row_at pool) es))) (turned key e.key) ∙ by (is_at key e) (hist_found pool key es)
  where
    by : (b : Bool) → find_key key_cmp key (map (row_at pool) es) ≡ option_map (λ v. hist_of (chain pool v)) (option_map (λ (e : Entry). e.value) (find (is_at key) es))
        → cond b (Some (hist_of (chain pool e.value))) (find_key key_cmp key (map (row_at pool) es)) ≡ option_map (λ v. hist_of (chain pool v)) (option_map (λ (e : Entry). e.value) (cond b (Some e) (find (is_at key) es)))
    by true h = refl
    by false h = h

-- the history of a key that the tree has, and of one that it lacks
pub hist_there : (pool : Contents) (key : List ℕ) (es : List Entry) (v : ℕ) → value_of key es ≡ Some v → hist_in key (map (row_at pool) es) ≡ hist_of (chain pool v)
hist_there pool key es v f = ap (λ o. unwrap_or o never) (hist_found pool key es ∙ ap (option_map (λ v. hist_of (chain pool v))) f)

pub hist_lacking : (pool : Contents) (key : List ℕ) (es : List Entry) → value_of key es ≡ None → hist_in key (map (row_at pool) es) ≡ never
hist_lacking pool key es f = ap (λ o. unwrap_or o never) (hist_found pool key es ∙ ap (option_map (λ v. hist_of (chain pool v))) f)

-- ---- the last change

pub row_first : (pool : Contents) (cell : ℕ) (l : Link) (links : List Link) → RowStands pool cell (l ∷ links) → head_of (bytes_at pool cell) ≡ l.head
row_first pool cell l links r = ap (λ c. head_of (bytes_at pool c)) r.chains.0 ∙ link_head pool l r.chains.1

-- a first change that names no other is alone
pub last_alone : (pool : Contents) (cell : ℕ) (l : Link) (links : List Link) → RowStands pool cell (l ∷ links) → (head_of (bytes_at pool cell)).last ≡ nothing → cell ≡ (newest l links).cell
last_alone pool cell l [] r e = r.chains.0
last_alone pool cell l (m ∷ links) r e =
    let f = ap (λ (h : Head). h.last) (row_first pool cell l (m ∷ links) r) in
    let i = (newest_stands pool l.head.next m links r.chains.2).inside in
    let mark = r.marked in
    absurd (omega arith)

pub live_is : (pool : Contents) (v last : ℕ) (h : Hist) (kind : Kindly) → RowStands pool v (chain pool v) → h ≡ hist_of (chain pool v) → ((l : Link) (links : List Link) → chain pool v ≡ l ∷ links → last ≡ (newest l links).cell) → kind ≡ (head_of (bytes_at pool last)).kind
    → stays kind ≡ is_some (last_row h)
live_is pool v last h kind r same ends read = by (chain pool v) refl
  where
    by : (links : List Link) → chain pool v ≡ links → stays kind ≡ is_some (last_row h)
    by [] e = absurd (subst (RowStands pool v) e r).marked
    by (l ∷ links) e =
        let s = subst (RowStands pool v) e r in
        let hist : h ≡ hist_of (l ∷ links) = same ∙ ap hist_of e in
        let tail = ends l links e in
        let head = ap (λ c. head_of (bytes_at pool c)) tail ∙ link_head pool (newest l links) (newest_stands pool v l links s.chains) in
        ap stays (read ∙ ap (λ (h : Head). h.kind) head) ∙ sym s.told ∙ ap (λ h. is_some (last_row h)) (sym hist)

pub last_stands : (pool : Contents) (v last : ℕ) → RowStands pool v (chain pool v) → ((l : Link) (links : List Link) → chain pool v ≡ l ∷ links → last ≡ (newest l links).cell) → IsLink pool (link_at pool last)
last_stands pool v last r ends = by (chain pool v) refl
  where
    by : (links : List Link) → chain pool v ≡ links → IsLink pool (link_at pool last)
    by [] e = absurd (subst (RowStands pool v) e r).marked
    by (l ∷ links) e =
        let s = subst (RowStands pool v) e r in
        let n = newest_stands pool v l links s.chains in
        subst (IsLink pool) (sym (ap (link_at pool) (ends l links e) ∙ link_again pool (newest l links) n)) n

-- ---- the changes in turn

no_links : (pool : Contents) (cell : ℕ) (links : List Link) → Chains pool cell links → cell ≡ nothing → links ≡ []
no_links pool cell [] h e = refl
no_links pool cell (l ∷ links) h e = let i = h.1.inside in let c = h.0 in absurd (omega arith)

pub here_stands : (pool : Contents) (cell : ℕ) (links : List Link) → Chains pool cell links → cell ≢ nothing → IsLink pool (link_at pool cell)
here_stands pool cell [] h ne = absurd (ne h)
here_stands pool cell (l ∷ links) h ne = subst (IsLink pool) (sym (ap (link_at pool) h.0 ∙ link_again pool l h.1)) h.1

pub leads_first : (pool : Contents) (first t : ℕ) → IsChainAt pool first (chain pool first) → Leads pool first first t None
leads_first pool first t s = record { links = chain pool first; stand = s; same = refl }

module _ (pool : Contents) (cell next : ℕ) (ne : cell ≢ nothing) (goes : next ≡ (link_at pool cell).head.next) where
  pub next_chain : (l : Link) (links : List Link) → IsChainAt pool cell (l ∷ links) → IsChainAt pool next links
  next_chain l links s = record {
    chains = subst (λ n. Chains pool n links) (sym (goes ∙ ap (λ c. (link_at pool c).head.next) s.chains.0 ∙ ap (λ (l : Link). l.head.next) (link_again pool l s.chains.1))) s.chains.2;
    once = λ k. let o = s.once k in omega arith;
  }

  pub next_fewer : (links : List Link) → IsChainAt pool cell links → length (chain pool next) < length (chain pool cell)
  next_fewer [] s = absurd (ne s.chains)
  next_fewer (l ∷ links) s =
      let n = next_chain l links s in
      let a = ap length (chain_is pool cell (l ∷ links) s.chains s.once) in
      let b = ap length (chain_is pool next links n.chains n.once) in
      omega arith

  leads_by : (first t : ℕ) (row row2 : Option Row) → row2 ≡ after_steps t (steps_of (link_at pool cell ∷ [])) row → (links : List Link) → IsChainAt pool cell links → after_steps t (steps_of links) row ≡ after_steps t (steps_of (chain pool first)) None → Leads pool first next t row2
  leads_by first t row row2 e [] s same = absurd (ne s.chains)
  leads_by first t row row2 e (l ∷ links) s same =
      let here : link_at pool cell ≡ l = ap (link_at pool) s.chains.0 ∙ link_again pool l s.chains.1 in
      record {
        links = links;
        stand = next_chain l links s;
        same = ap (after_steps t (steps_of links)) (e ∙ ap (λ l. after_steps t (steps_of (l ∷ [])) row) here) ∙ sym (after_steps-append t (step_of l ∷ []) (steps_of links) row) ∙ same;
      }

  pub leads_next : (first t : ℕ) (row row2 : Option Row) → row2 ≡ after_steps t (steps_of (link_at pool cell ∷ [])) row → Leads pool first cell t row → Leads pool first next t row2
  leads_next first t row row2 e h = leads_by first t row row2 e h.links h.stand h.same

pub leads_done : (pool : Contents) (first cell t : ℕ) (row : Option Row) → cell ≡ nothing → Leads pool first cell t row → row ≡ after_steps t (steps_of (chain pool first)) None
leads_done pool first cell t row e h = ap (λ links. after_steps t (steps_of links) row) (sym (no_links pool cell h.links h.stand.chains e)) ∙ h.same

-- the cells of a change that stands are read
pub not_refused : (pool : Contents) (cell left : ℕ) (d : List ℕ) → IsLink pool (link_at pool cell) → d ≡ bytes_at pool cell → cells_at (take (length d - 21) (drop 21 d)) ≡ Err left → ⊥
not_refused pool cell left d s e refused =
    let all : take (length d - 21) (drop 21 d) ≡ drop 21 d = take_all (length d - 21) (drop 21 d) (omega (arith, length-drop 21 d)) in
    let read : cells_at (drop 21 d) ≡ Ok ((link_at pool cell).cells, []) = ap (λ d. cells_at (drop 21 d)) e ∙ link_cells pool (link_at pool cell) s in
    let same : cells_at (drop 21 d) ≡ Err left = ap cells_at (sym all) ∙ refused in
    differ (cells_at (drop 21 d)) ((link_at pool cell).cells, []) left read same
  where
    differ : (r : Result (Row × List ℕ) ℕ) (x : Row × List ℕ) (left : ℕ) → r ≡ Ok x → r ≡ Err left → ⊥
    differ r x left a b = cc

-- a row of a store stands alone
pub row_alone : (s : MemRowSet) (pool : Contents) (key : List ℕ) (v : ℕ) → IsStore s pool → value_of key (entries s.tree pool) ≡ Some v → IsChainAt pool v (chain pool v)
row_alone s pool key v st f = record {
  chains = (each_found (λ cell. RowStands pool cell (chain pool cell)) key (entries s.tree pool) v f st.rows).chains;
  once = λ k. let a = in_row_found pool key (entries s.tree pool) v k f in let b = st.within k in let c = st.once k in omega arith;
}

pub row_there : (s : MemRowSet) (pool : Contents) (key : List ℕ) (v : ℕ) → IsStore s pool → value_of key (entries s.tree pool) ≡ Some v → RowStands pool v (chain pool v)
row_there s pool key v st f = each_found (λ cell. RowStands pool cell (chain pool cell)) key (entries s.tree pool) v f st.rows

pub link_long : (pool : Contents) (cell : ℕ) → IsLink pool (link_at pool cell) → 23 ≤ length (bytes_at pool cell)
link_long pool cell s =
    let e = ap length (link_bytes pool (link_at pool cell) s) in let l = length-spelling (link_at pool cell).head (link_at pool cell).cells in omega arith

-- ---- the row whose first change the tree gives

pub found_stands : (s : MemRowSet) (pool : Contents) (key : List ℕ) (first : Option Place) → IsStore s pool → first ≡ option_map place_at (value_of key (entries s.tree pool)) → IfSome first (λ first. RowStands pool first.cell (chain pool first.cell))
found_stands s pool key None st e = tt
found_stands s pool key (Some first) st e = row_there s pool key first.cell st (get_some (value_of key (entries s.tree pool)) first e)

pub found_hist : (s : MemRowSet) (pool : Contents) (key : List ℕ) (first : Option Place) → first ≡ option_map place_at (value_of key (entries s.tree pool)) → hist_in key (store_of s pool) ≡ hist_of (links_from pool first)
found_hist s pool key None e = hist_lacking pool key (entries s.tree pool) (get_none (value_of key (entries s.tree pool)) e)
found_hist s pool key (Some first) e = hist_there pool key (entries s.tree pool) first.cell (get_some (value_of key (entries s.tree pool)) first e)

-- whether it is there
pub found_live : (s : MemRowSet) (pool : Contents) (key : List ℕ) (first : Option Place) (live : Bool) → first ≡ option_map place_at (value_of key (entries s.tree pool)) → live ≡ is_some (last_row (hist_of (links_from pool first)))
    → live ≡ is_some (last_row (hist_in key (store_of s pool)))
found_live s pool key first live e told = told ∙ ap (λ (h : Hist). is_some (last_row h)) (sym (found_hist s pool key first e))

-- the kind of change that an operation makes fits its row
pub made_fits : (op : RowOp) (kind : Kindly) (row : Option Row) → kind_made op.kind (is_some row) ≡ Some kind → fits (change_by kind op) row ≡ true
made_fits op kind row h = by op.kind row h
  where
    some : (x y : Kindly) → Some x ≡ Some y → x ≡ y
    some x y e = cc

    by : (k : OpKind) (row : Option Row) → kind_made k (is_some row) ≡ Some kind → fits (change_of kind op.cells) row ≡ true
    by Insert None h = ap (λ k. fits (change_of k op.cells) None) (sym (some _ _ h))
    by Insert (Some r) h = cc
    by Upsert None h = ap (λ k. fits (change_of k op.cells) None) (sym (some _ _ h))
    by Upsert (Some r) h = ap (λ k. fits (change_of k op.cells) (Some r)) (sym (some _ _ h))
    by Update None h = cc
    by Update (Some r) h = ap (λ k. fits (change_of k op.cells) (Some r)) (sym (some _ _ h))
    by Delete None h = cc
    by Delete (Some r) h = ap (λ k. fits (change_of k op.cells) (Some r)) (sym (some _ _ h))
    by InsertIgnore None h = ap (λ k. fits (change_of k op.cells) None) (sym (some _ _ h))
    by InsertIgnore (Some r) h = cc
    by UpdateIgnore None h = cc
    by UpdateIgnore (Some r) h = ap (λ k. fits (change_of k op.cells) (Some r)) (sym (some _ _ h))
    by DeleteIgnore None h = cc
    by DeleteIgnore (Some r) h = ap (λ k. fits (change_of k op.cells) (Some r)) (sym (some _ _ h))
