-- The way of a key down a tree, by the tree's form, and the node that is hung on it.
use Rattle.std.proofs.Common.{◌≡◌, ◌≢◌, ℕ, zero, suc, ◌+◌, ◌<◌, ◌≤◌, ◌%◌, Bool, true, false, cond, inl, inr, List, length, refl, sym, ap, ◌∙◌, arith, subst}
use Rattle.std.specs.Prelude.{slice_index}
use Rattle.std.proofs.lemmas.Bool.{cases_lt, cases_eq}
use Rattle.std.specs.Ordering.{is_lt}
use Rattle.kt_pool.specs.Contents.{Contents, bytes_at}
use Rattle.kt_tree.specs.Entries.{order}
use Rattle.kt_tree.specs.Shapes.{nothing, node_of, Shape, leaf, node, root_of, size, shape_at, IsTreeAt}
use Rattle.kt_tree.specs.Changes.{Lacks}
use Rattle.kt_tree.specs.Spots.{below, after, Leads}
use Rattle.kt_tree.specs.Ways.{turn, down, IsOnWay, IsNoted, IsSeatAt}
use Rattle.kt_tree.specs.declared.node.Node.{Node}
use Rattle.kt_tree.specs.declared.seat.Way.{Way}
use Rattle.kt_tree.specs.declared.seat.Seat.{Seat}
use Rattle.kt_tree.proofs.Shapes.{no_tree, left_tree, right_tree, size_small, spelled_is}
use Rattle.kt_tree.proofs.Splitting.{lacks_right, lacks_left}
use Rattle.kt_tree.proofs.Joining.{node_says, node_order}

-- ---- the ring

-- eight numbers in a row have eight remainders
ring_apart : (n m : ℕ) → n < m → m < n + 8 → n % 8 ≢ m % 8
ring_apart n m low high e = absurd (omega (arith, e))

-- where one more node was noted, the ring has the last ones of the way to it
pub noted_more : (s : Shape) (key : List ℕ) (old new : Way) (cell : ℕ) → IsNoted s key old → new.steps ≡ old.steps + 1 → slice_index new.cells (old.steps % 8) ≡ cell → ((i : ℕ) → i ≢ old.steps % 8 → slice_index new.cells i ≡ slice_index old.cells i) → cell ≡ root_of (down key old.steps s) → cell ≢ nothing → IsNoted s key new
noted_more s key old new cell noted more here others is ne n lt near = elim (cases_eq n old.steps) [
  | inl same ↦
      let at : slice_index new.cells (n % 8) ≡ cell = ap (λ (j : ℕ). slice_index new.cells (j % 8)) same ∙ here in
      record { is = at ∙ is ∙ ap (λ (j : ℕ). root_of (down key j s)) (sym same); there = λ e. ne (sym at ∙ e) }
  | inr other ↦
      let h = noted n (omega arith) (omega arith) in
      let at : slice_index new.cells (n % 8) ≡ slice_index old.cells (n % 8) = others (n % 8) (ring_apart n old.steps (omega arith) (omega arith)) in
      record { is = at ∙ h.is; there = λ e. h.there (sym at ∙ e) }
]

pub noted_none : (s : Shape) (key : List ℕ) (way : Way) → way.steps ≡ 0 → IsNoted s key way
noted_none s key way e n lt near = absurd (omega arith)

-- what the ring has of a node is where it is
pub noted_at : (s : Shape) (key : List ℕ) (seat : Seat) (n cell : ℕ) → IsSeatAt s key seat → n < seat.way.steps → (seat.way.steps ≤ n + 8) × (cell ≡ slice_index seat.way.cells (n % 8)) → IsOnWay s key n cell
noted_at s key seat n cell h lt near = let on = h.noted n lt near.0 in record { is = near.1 ∙ on.is; there = λ e. on.there (sym near.1 ∙ e) }

-- ---- one step

turned : (pool : Contents) (key : List ℕ) (s : Shape) → IsTreeAt pool (root_of s) s → IsTreeAt pool (root_of (turn key s)) (turn key s)
turned pool key leaf t = t
turned pool key (node cell l own place value r) t = by (is_lt (order own key))
  where
    by : (b : Bool) → IsTreeAt pool (root_of (cond b r l)) (cond b r l)
    by true = right_tree pool cell cell l own place value r t
    by false = left_tree pool cell cell l own place value r t

lacks_turn : (pool : Contents) (key : List ℕ) (s : Shape) → Lacks pool (root_of s) key s → Lacks pool (root_of (turn key s)) key (turn key s)
lacks_turn pool key leaf h = h
lacks_turn pool key (node cell l own place value r) h = by (is_lt (order own key))
  where
    by : (b : Bool) → Lacks pool (root_of (cond b r l)) key (cond b r l)
    by true = let x = lacks_right pool cell key (node_of (bytes_at pool cell)) refl cell l own place value r h in record { tree = right_tree pool cell cell l own place value r h.tree; rising = x.rising; absent = x.absent }
    by false = let x = lacks_left pool cell key (node_of (bytes_at pool cell)) refl cell l own place value r h in record { tree = left_tree pool cell cell l own place value r h.tree; rising = x.rising; absent = x.absent }

-- each step leaves at least a node behind
fewer_turn : (key : List ℕ) (s : Shape) → root_of s ≢ nothing → size (turn key s) + 1 ≤ size s
fewer_turn key leaf ne = absurd (ne refl)
fewer_turn key (node cell l own place value r) ne = by (is_lt (order own key))
  where
    by : (b : Bool) → size (cond b r l) + 1 ≤ size (node cell l own place value r)
    by true = omega arith
    by false = omega arith

some_size : (s : Shape) → root_of s ≢ nothing → 1 ≤ size s
some_size leaf ne = absurd (ne refl)
some_size (node cell l own place value r) ne = omega arith

cond_root : (b : Bool) (r l : Shape) → cond b (root_of r) (root_of l) ≡ root_of (cond b r l)
cond_root true r l = refl
cond_root false r l = refl

-- the pool leads where the form does
pub below_turn : (pool : Contents) (key : List ℕ) (s : Shape) → IsTreeAt pool (root_of s) s → root_of s ≢ nothing → below pool key (root_of s) ≡ root_of (turn key s)
below_turn pool key leaf t ne = absurd (ne refl)
below_turn pool key (node cell l own place value r) t ne =
    let n = node_of (bytes_at pool cell) in
    ap (λ o. cond (is_lt o) n.right n.left) (node_order pool cell key n refl cell l own place value r t)
    ∙ ap (λ (m : Node). cond (is_lt (order own key)) m.right m.left) (node_says pool cell key n refl cell l own place value r t)
    ∙ cond_root (is_lt (order own key)) r l

-- ---- many steps

module _ (pool : Contents) (key : List ℕ) (root : ℕ) (s : Shape) (t : IsTreeAt pool root s) where
  pub stands_down : (n : ℕ) → IsTreeAt pool (root_of (down key n s)) (down key n s)
  stands_down zero = record { root = refl; holds = t.holds; apart = t.apart }
  stands_down (suc n) = turned pool key (down key n s) (stands_down n)

  there_down : (n : ℕ) → root_of (down key (suc n) s) ≢ nothing → root_of (down key n s) ≢ nothing
  there_down n ne e = ne (ap (λ (x : Shape). root_of (turn key x)) (no_tree pool (root_of (down key n s)) (down key n s) (stands_down n) e))

  -- where there is a node, there is one at each step before
  nodes_down : (n k : ℕ) → k ≤ n → root_of (down key n s) ≢ nothing → root_of (down key k s) ≢ nothing
  nodes_down zero k low ne = let e : zero ≡ k = omega (arith, low) in subst (λ (j : ℕ). root_of (down key j s) ≢ nothing) e ne
  nodes_down (suc n) k low ne = elim (cases_lt k (suc n)) [
    | inl less ↦ nodes_down n k (omega (arith, less)) (there_down n ne)
    | inr past ↦ let e : suc n ≡ k = omega (arith, low, past) in subst (λ (j : ℕ). root_of (down key j s) ≢ nothing) e ne
  ]

  after_down : (n : ℕ) → root_of (down key n s) ≢ nothing → after pool key n root ≡ root_of (down key n s)
  after_down zero ne = t.root
  after_down (suc n) ne =
      let here = there_down n ne in
      ap (below pool key) (after_down n here) ∙ below_turn pool key (down key n s) (stands_down n) here

  few_down : (n : ℕ) → root_of (down key n s) ≢ nothing → n + size (down key n s) ≤ size s
  few_down zero ne = omega arith
  few_down (suc n) ne =
      let here = there_down n ne in
      let a = few_down n here in let b = fewer_turn key (down key n s) here in
      omega (arith, a, b)

  -- a way to a node has fewer steps than the pool has cells
  pub way_short : (n : ℕ) → root_of (down key n s) ≢ nothing → n < length pool.places
  way_short n ne =
      let a = few_down n ne in let b = some_size (down key n s) ne in let c = size_small pool root s t in
      omega (arith, a, b, c)

  -- a step from a node of the way leads to a spot
  pub leads_on : (n cell : ℕ) → IsOnWay s key n cell → (up to : ℕ) (from : Node) (side : Bool)
      → up ≡ cell → from ≡ node_of (bytes_at pool cell) → side ≡ is_lt (order (bytes_at pool from.key) key) → to ≡ below pool key cell → Leads pool key root up to from side
  leads_on n cell h up to from side is read turns goes =
      let ne : root_of (down key n s) ≢ nothing = λ e. h.there (h.is ∙ e) in
      let at : cell ≡ after pool key n root = h.is ∙ sym (after_down n ne) in
      record {
        steps = suc n;
        there = goes ∙ ap (below pool key) at;
        nodes = λ k lt e. let some = nodes_down n k (omega (arith, lt)) ne in some (sym (after_down k some) ∙ e);
        last = (is ∙ at, read ∙ ap (λ (c : ℕ). node_of (bytes_at pool c)) (sym is), turns);
      }

lacks_down : (pool : Contents) (key : List ℕ) (root : ℕ) (s : Shape) → Lacks pool root key s → (n : ℕ) → Lacks pool (root_of (down key n s)) key (down key n s)
lacks_down pool key root s h zero = record { tree = record { root = refl; holds = h.tree.holds; apart = h.tree.apart }; rising = h.rising; absent = h.absent }
lacks_down pool key root s h (suc n) = lacks_turn pool key (down key n s) (lacks_down pool key root s h n)

-- from each node of the way on there is a tree without the key
pub lacks_there : (pool : Contents) (key : List ℕ) (root : ℕ) (s : Shape) (n cell : ℕ) → Lacks pool root key s → IsOnWay s key n cell → (x : Shape) × Lacks pool cell key x
lacks_there pool key root s n cell h on = (down key n s, subst (λ (c : ℕ). Lacks pool c key (down key n s)) (sym on.is) (lacks_down pool key root s h n))

-- a tree has one form in a pool
pub one_form : (pool : Contents) (root : ℕ) (s x : Shape) → IsTreeAt pool root s → IsTreeAt pool root x → s ≡ x
one_form pool root s x t u = sym (spelled_is pool root s t) ∙ spelled_is pool root x u

pub seat_form : (s x : Shape) (key : List ℕ) (seat : Seat) → s ≡ x → IsSeatAt s key seat → IsSeatAt x key seat
seat_form s x key seat e h = subst (λ (s : Shape). IsSeatAt s key seat) e h
