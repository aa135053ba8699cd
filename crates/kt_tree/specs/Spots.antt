-- The way of a key down a tree that does not have it.
use Rattle.std.specs.Prelude.{◌≡◌, ◌≢◌, ℕ, zero, suc, ◌<◌, Bool, cond, List}
use Rattle.std.specs.Ordering.{is_lt}
use Rattle.kt_pool.specs.Contents.{Contents, bytes_at}
use Rattle.kt_tree.specs.Entries.{order}
use Rattle.kt_tree.specs.Shapes.{nothing, node_of}
use Rattle.kt_tree.specs.declared.node.Node.{Node}

-- the tree below the node at this cell to which the key belongs
abbrev pub below : Contents → List ℕ → ℕ → ℕ
below pool key cell =
    let here = node_of (bytes_at pool cell) in
    cond (is_lt (order (bytes_at pool here.key) key)) here.right here.left

-- the tree after so many steps from a root
abbrev pub after : Contents → List ℕ → ℕ → ℕ → ℕ
after pool key zero root = root
after pool key (suc n) root = below pool key (after pool key n root)

-- the last of so many steps is from this node, to its right or to its left, and where there is none, it is no node
abbrev pub IsLast : Contents → List ℕ → ℕ → ℕ → ℕ → Node → Bool → Type 0
IsLast pool key root zero above node right = above ≡ nothing
IsLast pool key root (suc n) above node right = (above ≡ after pool key n root) × (node ≡ node_of (bytes_at pool above)) × (right ≡ is_lt (order (bytes_at pool node.key) key))

-- some steps lead from the root to the tree at this cell, each from a node, and the last of them from this one
pub record Leads (pool : Contents) (key : List ℕ) (root above cell : ℕ) (node : Node) (right : Bool) : Type 0 where
  pub steps : ℕ
  pub there : cell ≡ after pool key steps root
  pub nodes : (k : ℕ) → k < steps → after pool key k root ≢ nothing
  pub last : IsLast pool key root steps above node right
