-- The way of a key down a tree, by the tree's form, and what is kept of it.
use Rattle.std.specs.Prelude.{◌≡◌, ◌≢◌, ℕ, zero, suc, ◌+◌, ◌<◌, ◌≤◌, ◌%◌, cond, List, None, slice_index}
use Rattle.std.specs.Ordering.{is_lt}
use Rattle.kt_tree.specs.Entries.{order}
use Rattle.kt_tree.specs.Shapes.{nothing, head_of, Shape, leaf, node, root_of}
use Rattle.kt_tree.specs.declared.seat.Way.{Way}
use Rattle.kt_tree.specs.declared.seat.Seat.{Seat}

-- the tree below the first node of one to which the key belongs
abbrev pub turn : List ℕ → Shape → Shape
turn key leaf = leaf
turn key (node cell left own place value right) = cond (is_lt (order own key)) right left

-- the tree after so many steps
abbrev pub down : List ℕ → ℕ → Shape → Shape
down key zero s = s
down key (suc n) s = turn key (down key n s)

-- the first node of the tree after so many steps is at this cell
pub record IsOnWay (s : Shape) (key : List ℕ) (n cell : ℕ) : Type 0 where
  pub is : cell ≡ root_of (down key n s)
  pub there : cell ≢ nothing

-- the ring has the cells of the last nodes of the way
abbrev pub IsNoted : Shape → List ℕ → Way → Type 0
IsNoted s key way = (n : ℕ) → n < way.steps → way.steps ≤ n + 8 → IsOnWay s key n (slice_index way.cells (n % 8))

-- the seat tells how the key begins, and its way down the tree, which goes to an end where the key is not found
pub record IsSeatAt (s : Shape) (key : List ℕ) (seat : Seat) : Type 0 where
  pub head : seat.head ≡ head_of key
  pub noted : IsNoted s key seat.way
  pub ends : seat.value ≡ None → root_of (down key seat.way.steps s) ≡ nothing
