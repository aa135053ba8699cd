-- Nodes in the cells of a pool, and the trees that they make.
use Rattle.std.specs.Prelude.{◌≡◌, ℕ, zero, suc, ◌+◌, ◌<◌, ◌≤◌, ◌==◌, cond, List, [], ◌∷◌, ◌++◌, length, drop, Some, get_or}
use Rattle.std.specs.List.{flat_map}
use Rattle.byteorder.specs.Endian.{big_from, little_number, little_bytes}
use Rattle.kt_pool.specs.Contents.{Contents, Stands, at_cell, bytes_at, used}
use Rattle.kt_tree.specs.Entries.{Entry}
use Rattle.kt_tree.specs.declared.node.Head.{Head}
use Rattle.kt_tree.specs.declared.node.Node.{Node}

-- the cell of no node
abbrev pub nothing : ℕ
nothing = 0xffff_ffff

-- the node that these bytes spell
abbrev pub node_of : List ℕ → Node
node_of bytes = record {
  left = little_number 4 bytes;
  right = little_number 4 (drop 4 bytes);
  key = little_number 4 (drop 8 bytes);
  value = little_number 4 (drop 12 bytes);
  head = record { high = little_number 4 (drop 16 bytes); low = little_number 4 (drop 20 bytes) };
}

-- the bytes of a node
abbrev pub spelling : Node → List ℕ
spelling n = flat_map (little_bytes 4) (n.left ∷ n.right ∷ n.key ∷ n.value ∷ n.head.high ∷ n.head.low ∷ [])

-- the first eight bytes of a key, as two numbers with the highest byte first; past its end they are 0
abbrev pub head_of : List ℕ → Head
head_of key = record { high = big_from 0 4 key; low = big_from 4 4 key }

-- each is a byte
abbrev pub AreBytes : List ℕ → Type 0
AreBytes bytes = (i : ℕ) → get_or bytes i 0 < 256

-- the node stands at this cell
pub record IsNode (pool : Contents) (cell : ℕ) (n : Node) : Type 0 where
  pub inside : cell < nothing
  pub stands : Stands pool cell
  pub long : length (bytes_at pool cell) ≡ 24
  pub says : node_of (bytes_at pool cell) ≡ n

-- the form of a tree: for each node its cell, what is left of it, its key and where that is placed, the place of its
-- value, and what is right of it
pub data Shape : Type 0 where
  leaf : Shape
  node : (cell : ℕ) → (left : Shape) → (key : List ℕ) → (place : ℕ) → (value : ℕ) → (right : Shape) → Shape

-- the cell of its first node
abbrev pub root_of : Shape → ℕ
root_of leaf = nothing
root_of (node cell left key place value right) = cell

-- its keys and values, from left to right
abbrev pub flat : Shape → List Entry
flat leaf = []
flat (node cell left key place value right) = flat left ++ record { key = key; value = value } ∷ flat right

-- its keys and where they are placed, from left to right
abbrev pub key_cells : Shape → List Entry
key_cells leaf = []
key_cells (node cell left key place value right) = key_cells left ++ record { key = key; value = place } ∷ key_cells right

-- how many nodes it has
abbrev pub size : Shape → ℕ
size leaf = 0
size (node cell left key place value right) = size left + 1 + size right

abbrev pub one_at : ℕ → ℕ → ℕ
one_at a k = cond (a == k) 1 0

-- how many of its places, which are those of nodes and of keys, are at this cell
abbrev pub count : Shape → ℕ → ℕ
count leaf k = 0
count (node cell left key place value right) k = count left k + (one_at cell k + (one_at place k + count right k))

-- the pool has a tree of this form
abbrev pub Holds : Contents → Shape → Type 0
Holds pool leaf = Unit {0}
Holds pool (node cell left key place value right) =
    IsNode pool cell (record { left = root_of left; right = root_of right; key = place; value = value; head = head_of key })
    × (at_cell pool place ≡ Some key) × Holds pool left × Holds pool right × AreBytes key

-- the tree that begins at this cell has this form, and none of its places is taken twice
pub record IsTreeAt (pool : Contents) (cell : ℕ) (s : Shape) : Type 0 where
  pub root : cell ≡ root_of s
  pub holds : Holds pool s
  pub apart : (k : ℕ) → count s k ≤ 1

-- some tree begins at this cell
abbrev pub HasTree : Contents → ℕ → Type 0
HasTree pool cell = (s : Shape) × IsTreeAt pool cell s

-- the form of the tree that begins at this cell, as far as so many steps go
abbrev pub shape_at : Contents → ℕ → ℕ → Shape
shape_at pool zero cell = leaf
shape_at pool (suc n) cell =
    let here = node_of (bytes_at pool cell) in
    cond (cell == nothing) leaf (node cell (shape_at pool n here.left) (bytes_at pool here.key) here.key here.value (shape_at pool n here.right))

-- the pools differ only in what is at the places that are counted here
pub record Rewrites (old new : Contents) (own : ℕ → ℕ) : Type 0 where
  pub size : length new.places ≡ length old.places
  pub reserved : new.reserved ≡ old.reserved
  pub used : used new ≡ used old
  pub frame : (k : ℕ) → own k ≡ 0 → at_cell new k ≡ at_cell old k
