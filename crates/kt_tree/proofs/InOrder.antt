-- A walk through a tree in the order of its keys.
use Rattle.std.proofs.Common.{◌≡◌, ◌≢◌, ℕ, List, [], ◌∷◌, ◌++◌, length, sym, ap, ◌∙◌, append_assoc, subst, Some}
use Rattle.std.proofs.lemmas.List.{append-nil}
use Rattle.kt_pool.specs.Contents.{Contents, Stands, at_cell, bytes_at}
use Rattle.kt_tree.specs.Entries.{Entry}
use Rattle.kt_tree.specs.Shapes.{nothing, node_of, Shape, leaf, node, flat, IsTreeAt}
use Rattle.kt_tree.specs.Trees.{IsTree, entries, place_at}
use Rattle.kt_tree.specs.InOrder.{form_at, from_root, from_each, to_come, IsOpen, AreOpen, IsWalk, IsPlaced, IsFirst}
use Rattle.kt_tree.specs.declared.node.Node.{Node}
use Rattle.kt_tree.specs.declared.tree.Tree.{Tree}
use Rattle.kt_tree.specs.declared.walk.Walk.{Walk}
use Rattle.kt_tree.proofs.Joining.{node_says, tree_right, tree_left}
use Rattle.kt_tree.proofs.Places.{stands_some}
use Rattle.kt_tree.proofs.Shapes.{no_tree, root_long, spelled_is}

-- what is to come of one node more
from_each-snoc : (pool : Contents) (cells : List ℕ) (cell : ℕ) → from_each pool (cells ++ cell ∷ []) ≡ from_root (form_at pool cell) ++ from_each pool cells
from_each-snoc pool [] cell = sym (append-nil (from_root (form_at pool cell)))
from_each-snoc pool (c ∷ cells) cell =
    ap (λ es. es ++ from_root (form_at pool c)) (from_each-snoc pool cells cell)
    ∙ append_assoc (from_root (form_at pool cell)) (from_each pool cells) (from_root (form_at pool c))

open_more : (pool : Contents) (cells : List ℕ) (cell : ℕ) → AreOpen pool cells → IsOpen pool cell → AreOpen pool (cells ++ cell ∷ [])
open_more pool [] cell h o = (o, tt)
open_more pool (c ∷ cells) cell h o = (h.0, open_more pool cells cell h.1 o)

open_first : (pool : Contents) (cells : List ℕ) (cell : ℕ) → AreOpen pool (cells ++ cell ∷ []) → AreOpen pool cells
open_first pool [] cell h = tt
open_first pool (c ∷ cells) cell h = (h.0, open_first pool cells cell h.1)

open_last : (pool : Contents) (cells : List ℕ) (cell : ℕ) → AreOpen pool (cells ++ cell ∷ []) → IsOpen pool cell
open_last pool [] cell h = h.0
open_last pool (c ∷ cells) cell h = open_last pool cells cell h.1

long_by : (pool : Contents) (cell : ℕ) → cell ≢ nothing → (s : Shape) → IsTreeAt pool cell s → length (bytes_at pool cell) ≡ 24
long_by pool cell ne leaf t = absurd (ne t.root)
long_by pool cell ne (node at l key place value r) t = root_long pool cell at l key place value r t

-- the trees below a node that was read
module _ (pool : Contents) (cell : ℕ) (n : Node) (read : n ≡ node_of (bytes_at pool cell)) (ne : cell ≢ nothing) where
  left_by : (s : Shape) → IsTreeAt pool cell s → IsTreeAt pool n.left (form_at pool n.left) × (flat s ≡ flat (form_at pool n.left) ++ from_root s)
  left_by leaf t = absurd (ne t.root)
  left_by (node at l key place value r) t =
      let below = tree_left pool cell [] n read at l key place value r t in
      let is = spelled_is pool n.left l below in
      (subst (IsTreeAt pool n.left) (sym is) below, ap (λ s. flat s ++ record { key = key; value = value } ∷ flat r) (sym is))

  right_by : (s : Shape) → IsTreeAt pool cell s → IsTreeAt pool n.right (form_at pool n.right) × ((e : Entry) × (from_root s ≡ e ∷ flat (form_at pool n.right)) × IsPlaced pool (record { key = place_at n.key; value = place_at n.value }) e)
  right_by leaf t = absurd (ne t.root)
  right_by (node at l key place value r) t =
      let below = tree_right pool cell [] n read at l key place value r t in
      let is = spelled_is pool n.right r below in
      let says = node_says pool cell [] n read at l key place value r t in (
        subst (IsTreeAt pool n.right) (sym is) below,
        (
          record { key = key; value = value },
          ap (λ s. record { key = key; value = value } ∷ flat s) (sym is),
          record { key = ap (λ (m : Node). at_cell pool m.key) says ∙ t.holds.1; value = ap (λ (m : Node). m.value) says },
        ),
      )

-- at first all entries are to come
module _ (tree : Tree) (pool : Contents) (walk : Walk) (at : walk.cell ≡ tree.root) (none : walk.above.items ≡ []) (t : IsTree tree pool) where
  pub walk_starts : IsWalk walk pool
  walk_starts = record {
    tree = subst (λ cell. IsTreeAt pool cell (form_at pool cell)) (sym at) t.stands;
    above = subst (AreOpen pool) (sym none) tt;
  }

  pub all_to_come : to_come walk pool ≡ entries tree pool
  all_to_come = ap (λ cell. flat (form_at pool cell) ++ from_each pool walk.above.items) at ∙ ap (λ cells. flat (form_at pool tree.root) ++ from_each pool cells) none ∙ append-nil (entries tree pool)

-- one step down to the left
module _ (pool : Contents) (walk : Walk) (w : IsWalk walk pool) (ne : walk.cell ≢ nothing) where
  pub walk_long : length (bytes_at pool walk.cell) ≡ 24
  walk_long = long_by pool walk.cell ne (form_at pool walk.cell) w.tree

  module _ (n : Node) (read : n ≡ node_of (bytes_at pool walk.cell)) (new : Walk) (at : new.cell ≡ n.left) (more : new.above.items ≡ walk.above.items ++ walk.cell ∷ []) where
    pub walk_down : IsWalk new pool
    walk_down = record {
      tree = subst (λ cell. IsTreeAt pool cell (form_at pool cell)) (sym at) (left_by pool walk.cell n read ne (form_at pool walk.cell) w.tree).0;
      above = subst (AreOpen pool) (sym more) (open_more pool walk.above.items walk.cell w.above (record { tree = w.tree; there = ne }));
    }

    pub down_to_come : to_come new pool ≡ to_come walk pool
    down_to_come =
        let below = flat (form_at pool n.left) in
        let here = from_root (form_at pool walk.cell) in
        ap (λ cell. flat (form_at pool cell) ++ from_each pool new.above.items) at
        ∙ ap (λ cells. below ++ from_each pool cells) more
        ∙ ap (λ es. below ++ es) (from_each-snoc pool walk.above.items walk.cell)
        ∙ sym (append_assoc below here (from_each pool walk.above.items))
        ∙ ap (λ es. es ++ from_each pool walk.above.items) (sym (left_by pool walk.cell n read ne (form_at pool walk.cell) w.tree).1)

-- the nearest node above, and the tree to its right
module _ (pool : Contents) (walk : Walk) (w : IsWalk walk pool) (down : walk.cell ≡ nothing) where
  above_to_come : to_come walk pool ≡ from_each pool walk.above.items
  above_to_come = ap (λ s. flat s ++ from_each pool walk.above.items) (no_tree pool walk.cell (form_at pool walk.cell) w.tree down)

  pub none_to_come : walk.above.items ≡ [] → to_come walk pool ≡ []
  none_to_come none = above_to_come ∙ ap (from_each pool) none

  module _ (cells : List ℕ) (cell : ℕ) (is : walk.above.items ≡ cells ++ cell ∷ []) where
    last_open : IsOpen pool cell
    last_open = open_last pool cells cell (subst (AreOpen pool) is w.above)

    pub open_long : length (bytes_at pool cell) ≡ 24
    open_long = long_by pool cell last_open.there (form_at pool cell) last_open.tree

    module _ (n : Node) (read : n ≡ node_of (bytes_at pool cell)) where
      module _ (new : Walk) (at : new.cell ≡ n.right) (rest : new.above.items ≡ cells) where
        pub walk_on : IsWalk new pool
        walk_on = record {
          tree = subst (λ cell. IsTreeAt pool cell (form_at pool cell)) (sym at) (right_by pool cell n read last_open.there (form_at pool cell) last_open.tree).0;
          above = subst (AreOpen pool) (sym rest) (open_first pool cells cell (subst (AreOpen pool) is w.above));
        }

        pub first_to_come : IsFirst pool (Some (record { key = place_at n.key; value = place_at n.value })) (to_come walk pool) (to_come new pool)
        first_to_come =
            let r = (right_by pool cell n read last_open.there (form_at pool cell) last_open.tree).1 in (
              r.0,
              above_to_come ∙ ap (from_each pool) is ∙ from_each-snoc pool cells cell ∙ ap (λ es. es ++ from_each pool cells) r.1
                  ∙ sym (ap (λ cell. r.0 ∷ flat (form_at pool cell) ++ from_each pool new.above.items) at ∙ ap (λ cells. r.0 ∷ flat (form_at pool n.right) ++ from_each pool cells) rest),
              r.2,
            )

        pub first_stands : Stands pool n.key
        first_stands = let r = (right_by pool cell n read last_open.there (form_at pool cell) last_open.tree).1 in stands_some pool n.key r.0.key r.2.key
