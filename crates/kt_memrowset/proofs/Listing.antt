-- The changes of a store, one row after the other.
use Rattle.std.proofs.Common.{◌≡◌, ◌≢◌, ℕ, ◌+◌, ◌-◌, ◌≤◌, get_or, List, [], ◌∷◌, ◌++◌, length, map, drop, Some, None, cond, Bool, true, false, refl, sym, ap, subst, ◌∙◌, append_assoc, arith, length-append}
use Rattle.std.specs.List.{filter}
use Rattle.kt_tree.proofs.Places.{bytes_some}
use Rattle.std.proofs.lemmas.List.{append-nil, map-append, length-map}
use Rattle.std.proofs.Math.Seq.{get_or-append_seam}
use Rattle.kt_memrowset.specs.Ending.{EndsIn}
use Rattle.std.proofs.lemmas.List.Concat.{flat_map-cons}
use Rattle.std.proofs.lemmas.Grind.{flat_map-append}
use Rattle.kt_cells.specs.Reading.{cells_behind}
use Rattle.kt_cells.proofs.InPlace.{whole_behind}
use Rattle.kt_history.specs.AsBytes.{change_with}
use Rattle.kt_history.specs.declared.change.Change.{Change}
use Rattle.kt_history.specs.declared.changes.KeyChange.{KeyChange}
use Rattle.kt_history.specs.Stores.{Steps, key_change}
use Rattle.kt_pool.specs.Contents.{Contents, bytes_at}
use Rattle.kt_tree.specs.Entries.{Entry}
use Rattle.kt_tree.specs.InOrder.{IsWalk, IsFirst, to_come}
use Rattle.kt_tree.specs.Trees as trees
use Rattle.kt_tree.specs.declared.tree.Pair.{Pair}
use Rattle.kt_tree.specs.declared.walk.Walk.{Walk}
use Rattle.kt_memrowset.specs.declared.link.Head.{Head}
use Rattle.kt_memrowset.specs.declared.store.MemRowSet.{MemRowSet}
use Rattle.kt_memrowset.specs.Links.{nothing, Link, IsLink, link_at, head_of, Chains, chain, IsChainAt, step_of, steps_of}
use Rattle.kt_memrowset.specs.declared.times.Times.{Times}
use Rattle.kt_memrowset.specs.Times.{in_times, changes_of, changes_in}
use Rattle.kt_memrowset.specs.Stores.{row_at, store_of, in_rows, IsStore, Lists, Walks}
use Rattle.kt_memrowset.proofs.Links.{link_again, link_head, link_cells}
use Rattle.kt_memrowset.proofs.Rows.{next_chain}
use Rattle.kt_memrowset.proofs.Frames.{RowsStand, in_rows-append, rows_right}

-- ---- the changes of a row

changes_one : (times : Times) (key : List ℕ) (c : ℕ × Change) (steps : Steps) → changes_of times key (c ∷ steps) ≡ changes_of times key (c ∷ []) ++ changes_of times key steps
changes_one times key c steps = by (in_times times c.0)
  where
    by : (b : Bool) → map (key_change key) (cond b (c ∷ filter (λ (c : ℕ × Change). in_times times c.0) steps) (filter (λ (c : ℕ × Change). in_times times c.0) steps)) ≡ map (key_change key) (cond b (c ∷ []) []) ++ changes_of times key steps
    by true = refl
    by false = refl

pub lists_first : (pool : Contents) (first : ℕ) (times : Times) (key : List ℕ) (old : List KeyChange) → IsChainAt pool first (chain pool first) → Lists pool first first times key old old
lists_first pool first times key old s = record { links = chain pool first; stand = s; same = refl }

module _ (pool : Contents) (cell next : ℕ) (ne : cell ≢ nothing) (goes : next ≡ (link_at pool cell).head.next) (first : ℕ) (times : Times) (key : List ℕ) (old now now2 : List KeyChange) (e : now2 ≡ now ++ changes_of times key (steps_of (link_at pool cell ∷ []))) where
  lists_by : (links : List Link) → IsChainAt pool cell links → now ++ changes_of times key (steps_of links) ≡ old ++ changes_of times key (steps_of (chain pool first)) → Lists pool first next times key old now2
  lists_by [] s same = absurd (ne s.chains)
  lists_by (l ∷ links) s same =
      let here : link_at pool cell ≡ l = ap (link_at pool) s.chains.0 ∙ link_again pool l s.chains.1 in
      record {
        links = links;
        stand = next_chain pool cell next ne goes l links s;
        same =
            ap (λ xs. xs ++ changes_of times key (steps_of links)) (e ∙ ap (λ l. now ++ changes_of times key (steps_of (l ∷ []))) here)
            ∙ append_assoc now (changes_of times key (steps_of (l ∷ []))) (changes_of times key (steps_of links))
            ∙ ap (λ xs. now ++ xs) (sym (changes_one times key (step_of l) (steps_of links))) ∙ same;
      }

  pub lists_next : Lists pool first cell times key old now → Lists pool first next times key old now2
  lists_next h = lists_by h.links h.stand h.same

no_links : (pool : Contents) (cell : ℕ) (links : List Link) → Chains pool cell links → cell ≡ nothing → links ≡ []
no_links pool cell [] h e = refl
no_links pool cell (l ∷ links) h e = let i = h.1.inside in let c = h.0 in absurd (omega arith)

pub lists_done : (pool : Contents) (first cell : ℕ) (times : Times) (key : List ℕ) (old now : List KeyChange) → cell ≡ nothing → Lists pool first cell times key old now → now ≡ old ++ changes_of times key (steps_of (chain pool first))
lists_done pool first cell times key old now e h =
    sym (append-nil now) ∙ ap (λ links. now ++ changes_of times key (steps_of links)) (sym (no_links pool cell h.links h.stand.chains e)) ∙ h.same

-- the change that a place spells, as the bytes behind its first fields
pub listed_link : (pool : Contents) (cell : ℕ) (times : Times) (key bytes cells : List ℕ) (h : Head) → IsLink pool (link_at pool cell) → bytes ≡ bytes_at pool cell → cells ≡ drop 21 bytes → h ≡ head_of (bytes_at pool cell) → in_times times h.ts ≡ true
    → record { key = key; ts = h.ts; change = change_with h.kind (cells_behind cells) } ∷ [] ≡ changes_of times key (steps_of (link_at pool cell ∷ []))
listed_link pool cell times key bytes cells h s e behind read low =
    let l = link_at pool cell in
    let head : h ≡ l.head = read ∙ link_head pool l s in
    let same : cells ≡ drop 21 (bytes_at pool cell) = behind ∙ ap (drop 21) e in
    let is : cells_behind cells ≡ l.cells = ap cells_behind same ∙ sym (whole_behind (drop 21 (bytes_at pool cell)) l.cells [] (link_cells pool l s)) in
    let at : in_times times l.head.ts ≡ true = ap (λ (h : Head). in_times times h.ts) (sym head) ∙ low in
    ap (λ (h : Head). record { key = key; ts = h.ts; change = change_with h.kind (cells_behind cells) } ∷ []) head
    ∙ ap (λ cells. record { key = key; ts = l.head.ts; change = change_with l.head.kind cells } ∷ []) is
    ∙ sym (ap (λ b. map (key_change key) (cond b (step_of l ∷ []) [])) at)

-- a list ends in the key of what was added
pub ends_in_added : (changes new : List KeyChange) (key : List ℕ) (c : KeyChange) → new ≡ changes ++ c ∷ [] → c.key ≡ key → EndsIn key new
ends_in_added changes new key c e is =
    let n : length new ≡ length changes + 1 = ap length e ∙ length-append changes (c ∷ []) in
    let keys : map (λ (x : KeyChange). x.key) new ≡ map (λ (x : KeyChange). x.key) changes ++ c.key ∷ [] = ap (map (λ (x : KeyChange). x.key)) e ∙ map-append (λ (x : KeyChange). x.key) changes (c ∷ []) in
    let at : length new - 1 ≡ length (map (λ (x : KeyChange). x.key) changes) = omega (arith, n, length-map changes (λ (x : KeyChange). x.key)) in (
      omega (arith, n),
      ap (λ (k : ℕ). get_or (map (λ (x : KeyChange). x.key) new) k []) at ∙ ap (λ (xs : List (List ℕ)). get_or xs (length (map (λ (x : KeyChange). x.key) changes)) []) keys ∙ get_or-append_seam (map (λ (x : KeyChange). x.key) changes) c.key [] [] ∙ is,
    )

-- and one above the time is not listed
pub unlisted_link : (pool : Contents) (cell : ℕ) (times : Times) (key : List ℕ) (h : Head) → IsLink pool (link_at pool cell) → h ≡ head_of (bytes_at pool cell) → in_times times h.ts ≡ false → changes_of times key (steps_of (link_at pool cell ∷ [])) ≡ []
unlisted_link pool cell times key h s read high =
    let l = link_at pool cell in
    let head : h ≡ l.head = read ∙ link_head pool l s in
    ap (λ b. map (key_change key) (cond b (step_of l ∷ []) [])) (ap (λ (h : Head). in_times times h.ts) (sym head) ∙ high)

-- ---- the rows

pub walk_starts : (s : MemRowSet) (pool : Contents) (times : Times) (walk : Walk) → IsWalk walk pool → to_come walk pool ≡ trees.entries s.tree pool → Walks s pool times walk 0 []
walk_starts s pool times walk w all = record { stands = w; front = []; is = sym all; count = refl; listed = refl }

more_rows : (times : Times) (pool : Contents) (front : List Entry) (e : Entry) → changes_in times (map (row_at pool) (front ++ e ∷ [])) ≡ changes_in times (map (row_at pool) front) ++ changes_of times e.key (steps_of (chain pool e.value))
more_rows times pool front e =
    ap (changes_in times) (map-append (row_at pool) front (e ∷ [])) ∙ flat_map-append (λ row. changes_of times row.0 row.1.steps) (map (row_at pool) front) (row_at pool e ∷ [])
    ∙ ap (λ xs. changes_in times (map (row_at pool) front) ++ xs) (flat_map-cons (λ row. changes_of times row.0 row.1.steps) (row_at pool e) [] ∙ append-nil (changes_of times e.key (steps_of (chain pool e.value))))

module _ (s : MemRowSet) (pool : Contents) (st : IsStore s pool) (times : Times) (n : ℕ) (p : Pair) (walk new : Walk) (first : IsFirst pool (Some p) (to_come walk pool) (to_come new pool)) (now : List KeyChange) (w : Walks s pool times walk n now) where
  entries_are : trees.entries s.tree pool ≡ w.front ++ first.0 ∷ to_come new pool
  entries_are = w.is ∙ ap (λ rest. w.front ++ rest) first.1

  pub walk_alone : IsChainAt pool p.value.cell (chain pool p.value.cell)
  walk_alone =
      let rest = first.0 ∷ to_come new pool in
      let row = (rows_right pool w.front rest (subst (RowsStand pool) entries_are st.rows)).0 in
      subst (λ v. IsChainAt pool v (chain pool v)) (sym first.2.value) (record {
        chains = row.chains;
        once = λ k. let a = ap (λ es. in_rows pool es k) entries_are in let b = in_rows-append pool w.front rest k in let i = st.within k in let o = st.once k in omega arith;
      })

  module _ (stands : IsWalk new pool) (key : List ℕ) (key_is : key ≡ bytes_at pool p.key.cell) (now2 : List KeyChange) (more : now2 ≡ now ++ changes_of times key (steps_of (chain pool p.value.cell))) where
    pub walk_next : Walks s pool times new (n + 1) now2
    walk_next =
        let k : key ≡ first.0.key = key_is ∙ bytes_some pool p.key.cell first.0.key first.2.key in
        let count = w.count in
        record {
          stands = stands;
          front = w.front ++ first.0 ∷ [];
          is = entries_are ∙ sym (append_assoc w.front (first.0 ∷ []) (to_come new pool));
          count = omega (arith, length-append w.front (first.0 ∷ []));
          listed = more ∙ ap (λ xs. xs ++ changes_of times key (steps_of (chain pool p.value.cell))) w.listed ∙ ap (λ k. changes_in times (map (row_at pool) w.front) ++ changes_of times k (steps_of (chain pool p.value.cell))) k
              ∙ ap (λ v. changes_in times (map (row_at pool) w.front) ++ changes_of times first.0.key (steps_of (chain pool v))) first.2.value ∙ sym (more_rows times pool w.front first.0);
        }

module _ (s : MemRowSet) (pool : Contents) (times : Times) (n : ℕ) (walk : Walk) (now : List KeyChange) (w : Walks s pool times walk n now) where
  all_by : to_come walk pool ≡ [] → now ≡ changes_in times (store_of s pool)
  all_by none = w.listed ∙ ap (λ es. changes_in times (map (row_at pool) es)) (sym (append-nil w.front) ∙ ap (λ rest. w.front ++ rest) (sym none) ∙ sym w.is)

  nil_of : (rest : List Entry) → length rest ≡ 0 → rest ≡ []
  nil_of [] h = refl
  nil_of (e ∷ es) h = absurd (omega arith)

  pub walk_breaks : (new : Walk) → IsFirst pool None (to_come walk pool) (to_come new pool) → now ≡ changes_in times (store_of s pool)
  walk_breaks new first = all_by first.0

  pub walk_ends : (len : ℕ) → len ≡ length (trees.entries s.tree pool) → len ≤ n → now ≡ changes_in times (store_of s pool)
  walk_ends len e low = all_by (nil_of (to_come walk pool) (let a = ap length w.is in let c = w.count in omega (arith, length-append w.front (to_come walk pool))))
