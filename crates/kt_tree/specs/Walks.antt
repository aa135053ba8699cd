-- How far a walk down a tree has come.
use Rattle.std.specs.Prelude.{◌≡◌, ℕ, ◌≤◌, List, Option, None, Some}
use Rattle.std.specs.List.{find}
use Rattle.kt_pool.specs.Contents.{Contents}
use Rattle.kt_tree.specs.Entries.{Entry, IsRising, is_at, is_after, value_of}
use Rattle.kt_tree.specs.Shapes.{Shape, IsTreeAt, root_of, flat, key_cells, count}
use Rattle.kt_tree.specs.Ways.{down, IsNoted}
use Rattle.kt_tree.specs.Trees.{entries, place_of, shape_of, IsPairOf}
use Rattle.kt_tree.specs.declared.seat.Way.{Way}
use Rattle.kt_tree.specs.declared.tree.Tree.{Tree}
use Rattle.kt_tree.specs.declared.tree.Pair.{Pair}

-- the key is in the tree that begins here, if it is anywhere
pub record Seeks (tree : Tree) (pool : Contents) (cell : ℕ) (key : List ℕ) : Type 0 where
  pub form : Shape
  pub stands : IsTreeAt pool cell form
  pub rising : IsRising (flat form)
  pub same : find (is_at key) (entries tree pool) ≡ find (is_at key) (flat form)

-- the same, and the way of the key has come to this cell
pub record SeeksOn (tree : Tree) (pool : Contents) (cell : ℕ) (key : List ℕ) (way : Way) : Type 0 where
  pub seeks : Seeks tree pool cell key
  pub here : cell ≡ root_of (down key way.steps (shape_of tree pool))
  pub noted : IsNoted (shape_of tree pool) key way

abbrev pub or_else : Option Entry → Option Entry → Option Entry
or_else None e = e
or_else (Some x) e = Some x

-- the first key after this one is in the tree that begins here, or else it is the best so far
pub record SeeksAfter (tree : Tree) (pool : Contents) (cell : ℕ) (key : Option (List ℕ)) (best : Option Pair) : Type 0 where
  pub form : Shape
  pub stands : IsTreeAt pool cell form
  pub rising : IsRising (flat form)
  pub part : (k : ℕ) → count form k ≤ count (shape_of tree pool) k
  pub places : (k : List ℕ) (place : ℕ) → value_of k (key_cells form) ≡ Some place → place_of k tree pool ≡ Some place
  pub found : Option Entry
  pub is_best : IsPairOf tree pool best found
  pub same : find (is_after key) (entries tree pool) ≡ or_else (find (is_after key) (flat form)) found
