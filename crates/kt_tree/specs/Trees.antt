-- What a tree is to its callers, read with its pool.
use Rattle.std.specs.Prelude.{◌≡◌, ℕ, ◌+◌, ◌<◌, List, length, Option, None, Some}
use Rattle.kt_pool.specs.Contents.{Contents, cells_for, at_cell}
use Rattle.kt_pool.specs.declared.place.Place.{Place}
use Rattle.kt_tree.specs.Entries.{Entry, IsRising, value_of}
use Rattle.kt_tree.specs.Shapes.{Shape, shape_at, flat, key_cells, count, IsTreeAt}
use Rattle.kt_tree.specs.Ways.{IsSeatAt}
use Rattle.kt_tree.specs.declared.seat.Seat.{Seat}
use Rattle.kt_tree.specs.declared.tree.Pair.{Pair}
use Rattle.kt_tree.specs.declared.tree.Tree.{Tree}

abbrev pub shape_of : Tree → Contents → Shape
shape_of tree pool = shape_at pool (length pool.places) tree.root

-- the keys of the tree, rising, each with the place of its value
abbrev pub entries : Tree → Contents → List Entry
entries tree pool = flat (shape_of tree pool)

-- the keys of the tree, rising, each with its own place
abbrev pub key_places : Tree → Contents → List Entry
key_places tree pool = key_cells (shape_of tree pool)

-- the place of this key in the tree
abbrev pub place_of : List ℕ → Tree → Contents → Option ℕ
place_of key tree pool = value_of key (key_places tree pool)

-- this cell begins a place of the tree: that of a node, or of a key
abbrev pub Owns : Tree → Contents → ℕ → Type 0
Owns tree pool k = 0 < count (shape_of tree pool) k

-- the tree stands in this pool
pub record IsTree (tree : Tree) (pool : Contents) : Type 0 where
  pub stands : IsTreeAt pool tree.root (shape_of tree pool)
  pub rising : IsRising (entries tree pool)
  pub counted : tree.count ≡ length (entries tree pool)

-- a place, by its cell
abbrev pub place_at : ℕ → Place
place_at cell = record { cell = cell }

-- the pair is that of the entry: where its key is placed, and its value
pub record IsPair (tree : Tree) (pool : Contents) (p : Pair) (e : Entry) : Type 0 where
  pub key : at_cell pool p.key.cell ≡ Some e.key
  pub place : place_of e.key tree pool ≡ Some p.key.cell
  pub owned : Owns tree pool p.key.cell
  pub value : p.value.cell ≡ e.value

-- there is a pair where there is an entry, and it is that one's
abbrev pub IsPairOf : Tree → Contents → Option Pair → Option Entry → Type 0
IsPairOf tree pool None None = Unit {0}
IsPairOf tree pool (Some p) (Some e) = IsPair tree pool p e
IsPairOf tree pool None (Some e) = ⊥
IsPairOf tree pool (Some p) None = ⊥

-- the key has a place at which nothing was in this pool
pub record IsNewlyPlaced (pool : Contents) (place : Option ℕ) : Type 0 where
  pub cell : ℕ
  pub is : place ≡ Some cell
  pub vacant : at_cell pool cell ≡ None

-- the seat is that of this key in the tree as it is
abbrev pub IsSeat : Tree → Contents → List ℕ → Seat → Type 0
IsSeat tree pool key seat = IsSeatAt (shape_of tree pool) key seat

-- the cells that a new key takes: one for its node, and its own
abbrev pub need : List ℕ → ℕ
need key = 1 + cells_for (length key)
