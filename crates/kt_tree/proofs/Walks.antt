-- A walk down a tree.
use Rattle.std.proofs.Common.{◌≡◌, ◌≢◌, ℕ, suc, ◌+◌, ◌<◌, ◌%◌, Bool, true, false, cond, length, List, [], ◌∷◌, ◌++◌, refl, sym, ap, ◌∙◌, arith, subst, Some, None, Option}
use Rattle.std.specs.List.{find}
use Rattle.std.specs.Option.{option_map}
use Rattle.std.specs.Ordering.{is_gt, is_lt}
use Rattle.std.specs.Prelude.{slice_index}
use Rattle.std.specs.declared.cmp.Ordering.{Ordering}
use Rattle.std.specs.declared.cmp.Ordering.TheVariants.{Less, Equal, Greater}
use Rattle.std.proofs.lemmas.Bool.{false≢true}
use Rattle.kt_pool.specs.Contents.{Contents, at_cell, bytes_at}
use Rattle.kt_tree.specs.Entries.{Entry, order, AreBelow, IsRising, is_at, value_of, is_past, is_after}
use Rattle.kt_tree.specs.Shapes.{nothing, node_of, Shape, leaf, node, root_of, flat, key_cells, count, IsTreeAt}
use Rattle.kt_tree.specs.Spots.{below}
use Rattle.kt_tree.specs.Trees.{IsTree, entries, place_at, shape_of}
use Rattle.kt_tree.specs.Walks.{Seeks, SeeksOn, SeeksAfter, or_else}
use Rattle.kt_tree.specs.Ways.{down, IsNoted}
use Rattle.kt_tree.specs.declared.seat.Way.{Way}
use Rattle.kt_tree.specs.declared.node.Node.{Node}
use Rattle.kt_tree.specs.declared.tree.Tree.{Tree}
use Rattle.kt_tree.specs.declared.tree.Pair.{Pair}
use Rattle.kt_tree.proofs.Orders.{below_weaker, below_same, rising_right, rising_left, rising_below, find_past, find_in, find_first, find_next, none_after}
use Rattle.kt_tree.proofs.Keys.{same_keys, rising_by, found_of, value_found, found_behind, tie}
use Rattle.kt_tree.proofs.Places.{one_same}
use Rattle.kt_tree.proofs.Shapes.{key_is}
use Rattle.kt_tree.proofs.Spots.{below_is}
use Rattle.kt_tree.proofs.Ways.{noted_more, noted_none, stands_down, way_short, below_turn}
use Rattle.kt_tree.proofs.Joining.{node_says, node_order, tree_right, tree_left, find_right, find_lefts, find_here}

module _ (tree : Tree) (pool : Contents) (cell : ℕ) (key : List ℕ) (n : Node) (read : n ≡ node_of (bytes_at pool cell)) (ne : cell ≢ nothing) where
  to_right : order (bytes_at pool n.key) key ≡ Less → (s : Shape) → IsTreeAt pool cell s → IsRising (flat s) → find (is_at key) (entries tree pool) ≡ find (is_at key) (flat s) → Seeks tree pool n.right key
  to_right o leaf t rising same = absurd (ne t.root)
  to_right o (node at l own place value r) t rising same = record {
    form = r;
    stands = tree_right pool cell key n read at l own place value r t;
    rising = (rising_right (flat l) (record { key = own; value = value } ∷ flat r) rising).1;
    same = same ∙ find_right pool cell key n read at l own place value r t rising (sym (node_order pool cell key n read at l own place value r t) ∙ o);
  }

  to_left : order (bytes_at pool n.key) key ≡ Greater → (s : Shape) → IsTreeAt pool cell s → IsRising (flat s) → find (is_at key) (entries tree pool) ≡ find (is_at key) (flat s) → Seeks tree pool n.left key
  to_left o leaf t rising same = absurd (ne t.root)
  to_left o (node at l own place value r) t rising same = record {
    form = l;
    stands = tree_left pool cell key n read at l own place value r t;
    rising = rising_left (flat l) (record { key = own; value = value } ∷ flat r) rising;
    same = same ∙ find_lefts pool cell key n read at l own place value r t rising (sym (node_order pool cell key n read at l own place value r t) ∙ o);
  }

  found_by : order (bytes_at pool n.key) key ≡ Equal → (s : Shape) → IsTreeAt pool cell s → IsRising (flat s) → find (is_at key) (entries tree pool) ≡ find (is_at key) (flat s) → Some (place_at n.value) ≡ option_map place_at (value_of key (entries tree pool))
  found_by o leaf t rising same = absurd (ne t.root)
  found_by o (node at l own place value r) t rising same =
      let says = node_says pool cell key n read at l own place value r t in
      let e = same ∙ find_here pool cell key n read at l own place value r t rising (sym (node_order pool cell key n read at l own place value r t) ∙ o) in
      ap (λ (m : Node). Some (place_at m.value)) says ∙ sym (ap (λ o. option_map place_at (option_map (λ (e : Entry). e.value) o)) e)

  pub seeks_right : order (bytes_at pool n.key) key ≡ Less → Seeks tree pool cell key → Seeks tree pool n.right key
  seeks_right o h = to_right o h.form h.stands h.rising h.same

  pub seeks_left : order (bytes_at pool n.key) key ≡ Greater → Seeks tree pool cell key → Seeks tree pool n.left key
  seeks_left o h = to_left o h.form h.stands h.rising h.same

  pub found_here : order (bytes_at pool n.key) key ≡ Equal → Seeks tree pool cell key → Some (place_at n.value) ≡ option_map place_at (value_of key (entries tree pool))
  found_here o h = found_by o h.form h.stands h.rising h.same

-- ---- the same, and the way to it

module _ (tree : Tree) (pool : Contents) (cell : ℕ) (key : List ℕ) (n : Node) (read : n ≡ node_of (bytes_at pool cell)) (ne : cell ≢ nothing) (t : IsTree tree pool) (old new : Way) (h : SeeksOn tree pool cell key old)
    (more : new.steps ≡ old.steps + 1) (here : slice_index new.cells (old.steps % 8) ≡ cell) (others : (i : ℕ) → i ≢ old.steps % 8 → slice_index new.cells i ≡ slice_index old.cells i) where
  pub noted_on : IsNoted (shape_of tree pool) key new
  noted_on = noted_more (shape_of tree pool) key old new cell h.noted more here others h.here ne

  gone_down : (side : Bool) → is_lt (order (bytes_at pool n.key) key) ≡ side → cond side n.right n.left ≡ root_of (down key new.steps (shape_of tree pool))
  gone_down side e =
      let s = shape_of tree pool in
      let next : suc old.steps ≡ new.steps = omega (arith, more) in
      sym (below_is pool key cell n side read (sym e)) ∙ ap (below pool key) h.here
      ∙ below_turn pool key (down key old.steps s) (stands_down pool key tree.root s t.stands old.steps) (λ e. ne (h.here ∙ e))
      ∙ ap (λ (j : ℕ). root_of (down key j s)) next

  pub on_right : order (bytes_at pool n.key) key ≡ Less → SeeksOn tree pool n.right key new
  on_right o = record { seeks = seeks_right tree pool cell key n read ne o h.seeks; here = gone_down true (ap is_lt o); noted = noted_on }

  pub on_left : order (bytes_at pool n.key) key ≡ Greater → SeeksOn tree pool n.left key new
  on_left o = record { seeks = seeks_left tree pool cell key n read ne o h.seeks; here = gone_down false (ap is_lt o); noted = noted_on }

-- the way has fewer steps than the pool has cells
pub on_short : (tree : Tree) (pool : Contents) (cell : ℕ) (key : List ℕ) (way : Way) → cell ≢ nothing → IsTree tree pool → SeeksOn tree pool cell key way → way.steps < length pool.places
on_short tree pool cell key way ne t h = way_short pool key tree.root (shape_of tree pool) t.stands way.steps (λ e. ne (h.here ∙ e))

-- at first the way has no step
pub on_first : (tree : Tree) (pool : Contents) (key : List ℕ) (way : Way) → way.steps ≡ 0 → IsTree tree pool → SeeksOn tree pool tree.root key way
on_first tree pool key way e t = record {
  seeks = record { form = shape_of tree pool; stands = t.stands; rising = t.rising; same = refl };
  here = t.stands.root ∙ ap (λ (j : ℕ). root_of (down key j (shape_of tree pool))) (sym e);
  noted = noted_none (shape_of tree pool) key way e;
}

-- ---- the first key after another

find_mid : (p : Entry → Bool) (xs : List Entry) (e : Entry) (ys : List Entry) → p e ≡ true → find p (xs ++ e ∷ ys) ≡ or_else (find p xs) (Some e)
find_mid p xs e ys passes = by (find p xs) refl
  where
    by : (o : Option Entry) → find p xs ≡ o → find p (xs ++ e ∷ ys) ≡ or_else o (Some e)
    by None none = find_past p xs (e ∷ ys) none ∙ find_first p e ys passes
    by (Some x) some = find_in p xs (e ∷ ys) x some

else_twice : (a : Option Entry) (e : Entry) (f : Option Entry) → or_else (or_else a (Some e)) f ≡ or_else a (Some e)
else_twice None e f = refl
else_twice (Some x) e f = refl

-- where a key is not after another, none below it is
none_past : (key : Option (List ℕ)) (own : List ℕ) (es : List Entry) → is_past key own ≡ false → AreBelow own es → find (is_after key) es ≡ None
none_past None own es fails h = absurd (false≢true (sym fails))
none_past (Some key) own es fails h = by (order own key) refl fails
  where
    by : (o : Ordering) → order own key ≡ o → is_gt o ≡ false → find (is_after (Some key)) es ≡ None
    by Less e f = none_after key es (below_weaker own key es e h)
    by Equal e f = none_after key es (below_same own key es e h)
    by Greater e f = absurd (false≢true (sym f))

-- the place of a key in a part of a tree is that in the tree
in_left : (l : Shape) (own : List ℕ) (place : ℕ) (r : Shape) (k : List ℕ) (c : ℕ) → value_of k (key_cells l) ≡ Some c → value_of k (key_cells l ++ record { key = own; value = place } ∷ key_cells r) ≡ Some c
in_left l own place r k c h =
    let f = found_of k (key_cells l) c h in
    value_found k (key_cells l ++ record { key = own; value = place } ∷ key_cells r) f.0 c (find_in (is_at k) (key_cells l) (record { key = own; value = place } ∷ key_cells r) f.0 f.1) f.2

in_right : (l : Shape) (own : List ℕ) (place : ℕ) (r : Shape) (k : List ℕ) (c : ℕ) → IsRising (key_cells l ++ record { key = own; value = place } ∷ key_cells r) → value_of k (key_cells r) ≡ Some c → value_of k (key_cells l ++ record { key = own; value = place } ∷ key_cells r) ≡ Some c
in_right l own place r k c rising h =
    let f = found_of k (key_cells r) c h in
    let behind = found_behind k (record { key = own; value = place } ∷ []) (key_cells r) f.0 (rising_right (key_cells l) (record { key = own; value = place } ∷ key_cells r) rising) f.1 in
    value_found k (key_cells l ++ record { key = own; value = place } ∷ key_cells r) f.0 c (found_behind k (key_cells l) (record { key = own; value = place } ∷ key_cells r) f.0 rising behind) f.2

here : (l : Shape) (own : List ℕ) (place : ℕ) (r : Shape) (c : ℕ) → IsRising (key_cells l ++ record { key = own; value = place } ∷ key_cells r) → place ≡ c → value_of own (key_cells l ++ record { key = own; value = place } ∷ key_cells r) ≡ Some c
here l own place r c rising is =
    let e : Entry = record { key = own; value = place } in
    value_found own (key_cells l ++ e ∷ key_cells r) e c (found_behind own (key_cells l) (e ∷ key_cells r) e rising (find_first (is_at own) e (key_cells r) (tie own))) is

module _ (tree : Tree) (pool : Contents) (cell : ℕ) (key : Option (List ℕ)) (n : Node) (read : n ≡ node_of (bytes_at pool cell)) (ne : cell ≢ nothing) (best : Option Pair) where
  past_right : is_past key (bytes_at pool n.key) ≡ false → (h : SeeksAfter tree pool cell key best) → (s : Shape) → h.form ≡ s → SeeksAfter tree pool n.right key best
  past_right fails h leaf is = absurd (ne (h.stands.root ∙ ap root_of is))
  past_right fails h (node at l own place value r) is =
      let t = subst (IsTreeAt pool cell) is h.stands in
      let rising = subst IsRising (ap flat is) h.rising in
      let says = node_says pool cell [] n read at l own place value r t in
      let own_is : bytes_at pool n.key ≡ own = ap (λ (m : Node). bytes_at pool m.key) says ∙ key_is pool cell at l own place value r t in
      let no_own : is_past key own ≡ false = ap (is_past key) (sym own_is) ∙ fails in
      record {
        form = r;
        stands = tree_right pool cell [] n read at l own place value r t;
        rising = (rising_right (flat l) (record { key = own; value = value } ∷ flat r) rising).1;
        part = λ k. let p = h.part k in let e = ap (λ s. count s k) is in omega arith;
        places = λ k c at_r. h.places k c (ap (λ s. value_of k (key_cells s)) is ∙ in_right l own place r k c (rising_by (key_cells (node at l own place value r)) (flat (node at l own place value r)) (same_keys (node at l own place value r)) rising) at_r);
        found = h.found;
        is_best = h.is_best;
        same = h.same ∙ ap (λ s. or_else (find (is_after key) (flat s)) h.found) is
            ∙ ap (λ o. or_else o h.found) (find_past (is_after key) (flat l) (record { key = own; value = value } ∷ flat r) (none_past key own (flat l) no_own (rising_below (flat l) (record { key = own; value = value }) (flat r) rising)) ∙ find_next (is_after key) (record { key = own; value = value }) (flat r) no_own);
      }

  past_left : is_past key (bytes_at pool n.key) ≡ true → (h : SeeksAfter tree pool cell key best) → (s : Shape) → h.form ≡ s → SeeksAfter tree pool n.left key (Some (record { key = place_at n.key; value = place_at n.value }))
  past_left passes h leaf is = absurd (ne (h.stands.root ∙ ap root_of is))
  past_left passes h (node at l own place value r) is =
      let t = subst (IsTreeAt pool cell) is h.stands in
      let rising = subst IsRising (ap flat is) h.rising in
      let says = node_says pool cell [] n read at l own place value r t in
      let own_is : bytes_at pool n.key ≡ own = ap (λ (m : Node). bytes_at pool m.key) says ∙ key_is pool cell at l own place value r t in
      let yes_own : is_past key own ≡ true = ap (is_past key) (sym own_is) ∙ passes in
      record {
        form = l;
        stands = tree_left pool cell [] n read at l own place value r t;
        rising = rising_left (flat l) (record { key = own; value = value } ∷ flat r) rising;
        part = λ k. let p = h.part k in let e = ap (λ s. count s k) is in omega arith;
        places = λ k c at_l. h.places k c (ap (λ s. value_of k (key_cells s)) is ∙ in_left l own place r k c at_l);
        found = Some (record { key = own; value = value });
        is_best = record {
          key = ap (λ (m : Node). at_cell pool m.key) says ∙ t.holds.1;
          place = h.places own n.key (ap (λ s. value_of own (key_cells s)) is ∙ here l own place r n.key (rising_by (key_cells (node at l own place value r)) (flat (node at l own place value r)) (same_keys (node at l own place value r)) rising) (sym (ap (λ (m : Node). m.key) says)));
          owned = let p = h.part n.key in let e = ap (λ s. count s n.key) is in let one = one_same place n.key (sym (ap (λ (m : Node). m.key) says)) in omega arith;
          value = ap (λ (m : Node). m.value) says;
        };
        same = h.same ∙ ap (λ s. or_else (find (is_after key) (flat s)) h.found) is
            ∙ ap (λ o. or_else o h.found) (find_mid (is_after key) (flat l) (record { key = own; value = value }) (flat r) yes_own)
            ∙ else_twice (find (is_after key) (flat l)) (record { key = own; value = value }) h.found;
      }

  pub after_right : is_past key (bytes_at pool n.key) ≡ false → SeeksAfter tree pool cell key best → SeeksAfter tree pool n.right key best
  after_right fails h = past_right fails h h.form refl

  pub after_left : is_past key (bytes_at pool n.key) ≡ true → SeeksAfter tree pool cell key best → SeeksAfter tree pool n.left key (Some (record { key = place_at n.key; value = place_at n.value }))
  after_left passes h = past_left passes h h.form refl

else_none : (o : Option Entry) → o ≡ or_else o None
else_none None = refl
else_none (Some x) = refl

-- at first there is the whole tree to seek in
pub after_first : (tree : Tree) (pool : Contents) (key : Option (List ℕ)) → IsTree tree pool → SeeksAfter tree pool tree.root key None
after_first tree pool key t = record {
  form = shape_of tree pool;
  stands = t.stands;
  rising = t.rising;
  part = λ k. omega arith;
  places = λ k place h. h;
  found = None;
  is_best = tt;
  same = else_none (find (is_after key) (entries tree pool));
}
