-- A node that is hung at a spot, and the tree above it.
use Rattle.std.proofs.Common.{◌≡◌, ◌≢◌, ℕ, zero, suc, ◌<◌, Bool, true, false, cond, inl, inr, List, refl, sym, ap, ◌∙◌, arith, subst}
use Rattle.std.proofs.lemmas.Bool.{cases_lt}
use Rattle.std.specs.Ordering.{is_lt}
use Rattle.kt_pool.specs.Contents.{Contents, bytes_at}
use Rattle.kt_tree.specs.Entries.{order, put}
use Rattle.kt_tree.specs.Shapes.{nothing, node_of, IsNode, Shape, flat, key_cells, one_at, Rewrites}
use Rattle.kt_tree.specs.Changes.{Lacks, Becomes, StandsBy}
use Rattle.kt_tree.specs.Spots.{below, after, IsLast, Leads}
use Rattle.kt_tree.specs.declared.node.Node.{Node}
use Rattle.kt_tree.proofs.Shapes.{nodes_at}
use Rattle.kt_tree.proofs.Splitting.{less_is, right_there, left_there, fewer_right, fewer_left}
use Rattle.kt_tree.proofs.Joining.{unchanged}
use Rattle.kt_tree.proofs.Hanging.{both, by_right_there, by_left_there, still_hung_right, still_hung_left, hangs_right, hangs_left}

-- ---- one step

-- the tree below a node whose side was read
pub below_is : (pool : Contents) (key : List ℕ) (cell : ℕ) (n : Node) (right : Bool) → n ≡ node_of (bytes_at pool cell) → right ≡ is_lt (order (bytes_at pool n.key) key) → below pool key cell ≡ cond right n.right n.left
below_is pool key cell n right read side =
    sym (ap (λ b. cond b n.right n.left) side ∙ ap (λ (m : Node). cond (is_lt (order (bytes_at pool m.key) key)) m.right m.left) read)

module _ (pool : Contents) (key : List ℕ) (cell : ℕ) (ne : cell ≢ nothing) (s : Shape) (h : Lacks pool cell key s) where
  pub lacks_below : (r : Shape) × Lacks pool (below pool key cell) key r
  lacks_below = by (is_lt (order (bytes_at pool (node_of (bytes_at pool cell)).key) key))
    where
      by : (b : Bool) → (r : Shape) × Lacks pool (cond b (node_of (bytes_at pool cell)).right (node_of (bytes_at pool cell)).left) key r
      by true = right_there pool cell key (node_of (bytes_at pool cell)) refl ne s h
      by false = left_there pool cell key (node_of (bytes_at pool cell)) refl ne s h

  pub fewer_below : nodes_at pool (below pool key cell) < nodes_at pool cell
  fewer_below = by (is_lt (order (bytes_at pool (node_of (bytes_at pool cell)).key) key))
    where
      by : (b : Bool) → nodes_at pool (cond b (node_of (bytes_at pool cell)).right (node_of (bytes_at pool cell)).left) < nodes_at pool cell
      by true = fewer_right pool cell key (node_of (bytes_at pool cell)) refl ne s h
      by false = fewer_left pool cell key (node_of (bytes_at pool cell)) refl ne s h

-- ---- how a way begins and goes on

pub leads_none : (pool : Contents) (key : List ℕ) (root above cell : ℕ) (node : Node) (right : Bool) → cell ≡ root → above ≡ nothing → Leads pool key root above cell node right
leads_none pool key root above cell node right there none = record { steps = 0; there = there; nodes = λ k lt. absurd (omega (arith, lt)); last = none }

pub leads_more : (pool : Contents) (key : List ℕ) (root above cell : ℕ) (node : Node) (right : Bool) (up to : ℕ) (from : Node) (side : Bool) → Leads pool key root above cell node right → cell ≢ nothing
    → up ≡ cell → from ≡ node_of (bytes_at pool cell) → side ≡ is_lt (order (bytes_at pool from.key) key) → to ≡ below pool key cell → Leads pool key root up to from side
leads_more pool key root above cell node right up to from side h ne is read turned down = record {
  steps = suc h.steps;
  there = down ∙ ap (below pool key) h.there;
  nodes = λ k lt. elim (cases_lt k h.steps) [
    | inl before ↦ h.nodes k before
    | inr past ↦ let same : h.steps ≡ k = omega (arith, lt, past) in subst (λ (j : ℕ). after pool key j root ≢ nothing) same (λ e. ne (h.there ∙ e))
  ];
  last = (is ∙ h.there, read ∙ ap (λ (c : ℕ). node_of (bytes_at pool c)) (sym is), turned);
}

-- ---- what stands above a spot

-- the tree at a cell becomes one that begins at another
abbrev pub Hangs : Contents → Contents → ℕ → List ℕ → ℕ → ℕ → Type 0
Hangs old new fresh key cell top = (s : Shape) (place value : ℕ) → StandsBy old cell fresh key s place value → Becomes old new top (put key value (flat s)) (put key place (key_cells s)) (both s fresh key place value)

-- the node stands alone beside some tree at this cell
abbrev pub IsBeside : Contents → ℕ → List ℕ → ℕ → Type 0
IsBeside old fresh key cell = (s : Shape) × (place : ℕ) × (value : ℕ) × StandsBy old cell fresh key s place value

module _ (old : Contents) (fresh : ℕ) (key : List ℕ) where
  beside_below : (cell : ℕ) → cell ≢ nothing → IsBeside old fresh key cell → IsBeside old fresh key (below old key cell)
  beside_below cell ne u = by (is_lt (order (bytes_at old (node_of (bytes_at old cell)).key) key))
    where
      by : (b : Bool) → IsBeside old fresh key (cond b (node_of (bytes_at old cell)).right (node_of (bytes_at old cell)).left)
      by true = by_right_there old cell fresh key (node_of (bytes_at old cell)) refl ne u.0 u.1 u.2 u.3
      by false = by_left_there old cell fresh key (node_of (bytes_at old cell)) refl ne u.0 u.1 u.2 u.3

  pub beside_after : (root n : ℕ) → ((k : ℕ) → k < n → after old key k root ≢ nothing) → IsBeside old fresh key root → IsBeside old fresh key (after old key n root)
  beside_after root zero nodes u = u
  beside_after root (suc n) nodes u = beside_below (after old key n root) (nodes n (omega arith)) (beside_after root n (λ k lt. nodes k (omega (arith, lt))) u)

  -- a node whose tree to one side has become another with the same root has not changed
  one_up : (new : Contents) (cell : ℕ) → cell ≢ nothing → IsBeside old fresh key cell → Hangs old new fresh key (below old key cell) (below old key cell) → Hangs old new fresh key cell cell
  one_up new cell ne u f = by (is_lt (order (bytes_at old (node_of (bytes_at old cell)).key) key)) refl f
    where
      by : (b : Bool) → is_lt (order (bytes_at old (node_of (bytes_at old cell)).key) key) ≡ b
          → Hangs old new fresh key (cond b (node_of (bytes_at old cell)).right (node_of (bytes_at old cell)).left) (cond b (node_of (bytes_at old cell)).right (node_of (bytes_at old cell)).left) → Hangs old new fresh key cell cell
      by true e f =
          let n = node_of (bytes_at old cell) in
          hangs_right old cell fresh key n refl ne new n.right new (unchanged new (one_at cell)) (less_is (order (bytes_at old n.key) key) e) (still_hung_right old cell fresh key n refl ne new n.right u.0 u.1 u.2 u.3 f) f
      by false e f =
          let n = node_of (bytes_at old cell) in
          hangs_left old cell fresh key n refl ne new n.left new (unchanged new (one_at cell)) e (still_hung_left old cell fresh key n refl ne new n.left u.0 u.1 u.2 u.3 f) f

  up_from : (new : Contents) (root n : ℕ) → ((k : ℕ) → k < n → after old key k root ≢ nothing) → IsBeside old fresh key root → Hangs old new fresh key (after old key n root) (after old key n root) → Hangs old new fresh key root root
  up_from new root zero nodes u f = f
  up_from new root (suc n) nodes u f =
      let before = λ (k : ℕ) (lt : k < n). nodes k (omega (arith, lt)) in
      up_from new root n before u (one_up new (after old key n root) (nodes n (omega arith)) (beside_after root n before u) f)

  -- ---- the node above the spot

  module _ (above : ℕ) (ne : above ≢ nothing) (node : Node) (read : node ≡ node_of (bytes_at old above)) (mid : Contents) where
    kept_node : (right : Bool) → IsBeside old fresh key above → Hangs old mid fresh key (cond right node.right node.left) fresh → IsNode mid above node
    kept_node true u f = still_hung_right old above fresh key node read ne mid fresh u.0 u.1 u.2 u.3 f
    kept_node false u f = still_hung_left old above fresh key node read ne mid fresh u.0 u.1 u.2 u.3 f

    linked : (new : Contents) (right : Bool) → right ≡ is_lt (order (bytes_at old node.key) key) → Hangs old mid fresh key (cond right node.right node.left) fresh → Rewrites mid new (one_at above)
        → IsNode new above (cond right (record node { right = fresh }) (record node { left = fresh })) → Hangs old new fresh key above above
    linked new true side f ot nd = hangs_right old above fresh key node read ne mid fresh new ot (less_is (order (bytes_at old node.key) key) (sym side)) nd f
    linked new false side f ot nd = hangs_left old above fresh key node read ne mid fresh new ot (sym side) nd f

  -- ---- the spot

  module _ (root above cell : ℕ) (node : Node) (right : Bool) where
    -- the node stands alone beside the tree that is to hang below it
    pub beside_spot : Leads old key root above cell node right → IsBeside old fresh key root → IsBeside old fresh key cell
    beside_spot l u = subst (IsBeside old fresh key) (sym l.there) (beside_after root l.steps l.nodes u)

    module _ (mid : Contents) (f : Hangs old mid fresh key cell fresh) where
      whole_by : (n : ℕ) → cell ≡ after old key n root → ((k : ℕ) → k < n → after old key k root ≢ nothing) → IsLast old key root n above node right → above ≡ nothing → Hangs old mid fresh key root fresh
      whole_by zero there nodes last none = subst (λ (c : ℕ). Hangs old mid fresh key c fresh) there f
      whole_by (suc n) there nodes last none = absurd (nodes n (omega arith) (sym last.0 ∙ none))

      -- where nothing is above it, the whole tree hangs below the node
      pub hung_whole : Leads old key root above cell node right → above ≡ nothing → Hangs old mid fresh key root fresh
      hung_whole l none = whole_by l.steps l.there l.nodes l.last none

      module _ (ne : above ≢ nothing) (u : IsBeside old fresh key root) where
        at_side : (n : ℕ) → cell ≡ after old key (suc n) root → IsLast old key root (suc n) above node right → Hangs old mid fresh key (cond right node.right node.left) fresh
        at_side n there last =
            subst (λ (c : ℕ). Hangs old mid fresh key c fresh) (there ∙ ap (below old key) (sym last.0) ∙ below_is old key above node right last.1 last.2) f

        kept_by : (n : ℕ) → cell ≡ after old key n root → ((k : ℕ) → k < n → after old key k root ≢ nothing) → IsLast old key root n above node right → IsNode mid above node
        kept_by zero there nodes last = absurd (ne last)
        kept_by (suc n) there nodes last =
            kept_node above ne node last.1 mid right (subst (IsBeside old fresh key) (sym last.0) (beside_after root n (λ k lt. nodes k (omega (arith, lt))) u)) (at_side n there last)

        -- the node above is as it was
        pub kept_above : Leads old key root above cell node right → IsNode mid above node
        kept_above l = kept_by l.steps l.there l.nodes l.last

        module _ (new : Contents) (ot : Rewrites mid new (one_at above)) (nd : IsNode new above (cond right (record node { right = fresh }) (record node { left = fresh }))) where
          on_by : (n : ℕ) → cell ≡ after old key n root → ((k : ℕ) → k < n → after old key k root ≢ nothing) → IsLast old key root n above node right → Hangs old new fresh key root root
          on_by zero there nodes last = absurd (ne last)
          on_by (suc n) there nodes last =
              up_from new root n (λ k lt. nodes k (omega (arith, lt))) u
              (subst (λ (c : ℕ). Hangs old new fresh key c c) last.0 (linked above ne node last.1 mid new right last.2 (at_side n there last) ot nd))

          -- and with the node below it, the tree has its key
          pub hung_on : Leads old key root above cell node right → Hangs old new fresh key root root
          hung_on l = on_by l.steps l.there l.nodes l.last
