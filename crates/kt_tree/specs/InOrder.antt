-- A walk through a tree in the order of its keys.
use Rattle.std.specs.Prelude.{◌≡◌, ◌≢◌, ℕ, List, [], ◌∷◌, ◌++◌, length, Option, None, Some}
use Rattle.kt_pool.specs.Contents.{Contents, at_cell}
use Rattle.kt_tree.specs.Entries.{Entry}
use Rattle.kt_tree.specs.Shapes.{nothing, Shape, leaf, node, shape_at, flat, IsTreeAt}
use Rattle.kt_tree.specs.declared.tree.Pair.{Pair}
use Rattle.kt_tree.specs.declared.walk.Walk.{Walk}

-- the form of the tree that begins at this cell
abbrev pub form_at : Contents → ℕ → Shape
form_at pool cell = shape_at pool (length pool.places) cell

-- the entry of the first node of a tree, and those to its right
abbrev pub from_root : Shape → List Entry
from_root leaf = []
from_root (node cell left key place value right) = record { key = key; value = value } ∷ flat right

-- what is to come of the nodes in these cells, the last of them first: each one's own entry, and those to its right
abbrev pub from_each : Contents → List ℕ → List Entry
from_each pool [] = []
from_each pool (cell ∷ cells) = from_each pool cells ++ from_root (form_at pool cell)

-- the entries that a walk has not come to: those of the tree at its cell, and then those of the nodes above
abbrev pub to_come : Walk → Contents → List Entry
to_come walk pool = flat (form_at pool walk.cell) ++ from_each pool walk.above.items

-- a tree that has a node begins at this cell
pub record IsOpen (pool : Contents) (cell : ℕ) : Type 0 where
  pub tree : IsTreeAt pool cell (form_at pool cell)
  pub there : cell ≢ nothing

-- one begins at each of these cells
abbrev pub AreOpen : Contents → List ℕ → Type 0
AreOpen pool [] = Unit {0}
AreOpen pool (cell ∷ cells) = IsOpen pool cell × AreOpen pool cells

-- the walk stands in this pool
pub record IsWalk (walk : Walk) (pool : Contents) : Type 0 where
  pub tree : IsTreeAt pool walk.cell (form_at pool walk.cell)
  pub above : AreOpen pool walk.above.items

-- the pair tells where the key of the entry is placed, and its value
pub record IsPlaced (pool : Contents) (p : Pair) (e : Entry) : Type 0 where
  pub key : at_cell pool p.key.cell ≡ Some e.key
  pub value : p.value.cell ≡ e.value

-- the pair is that of the first of these entries, and the others are left; or there was none
abbrev pub IsFirst : Contents → Option Pair → List Entry → List Entry → Type 0
IsFirst pool None es rest = (es ≡ []) × (rest ≡ [])
IsFirst pool (Some p) es rest = (e : Entry) × (es ≡ e ∷ rest) × IsPlaced pool p e
