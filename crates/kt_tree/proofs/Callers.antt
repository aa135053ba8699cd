-- What callers of a tree know of it when they change other places of its pool.
use Rattle.std.proofs.Common.{◌≡◌, ℕ, List, Some, sym, ap, arith}
use Rattle.kt_pool.specs.Contents.{Contents, Stands, at_cell}
use Rattle.kt_tree.specs.Shapes.{leaf, count, flat, key_cells, IsTreeAt, nothing}
use Rattle.kt_tree.specs.Trees.{IsTree, shape_of, entries, key_places, place_of, Owns, IsSeat}
use Rattle.kt_tree.specs.declared.seat.Seat.{Seat}
use Rattle.kt_tree.specs.declared.tree.Tree.{Tree}
use Rattle.kt_tree.proofs.Keys.{place_stands}
use Rattle.kt_tree.proofs.Shapes.{kept, spelled_is}
use Rattle.kt_tree.proofs.Trees.{tree_is, owned_stands}
use Rattle.kt_tree.proofs.Ways.{seat_form}

-- a tree of no node, in any pool
pub bare_tree : (tree : Tree) (pool : Contents) → tree.root ≡ nothing → tree.count ≡ 0 → IsTree tree pool
bare_tree tree pool e n = tree_is tree pool leaf (record { root = e; holds = tt; apart = λ k. omega arith }) tt n

pub bare_owns : (tree : Tree) (pool : Contents) → tree.root ≡ nothing → (k : ℕ) → ¬ Owns tree pool k
bare_owns tree pool e k o =
    let is = spelled_is pool tree.root leaf (record { root = e; holds = tt; apart = λ k. omega arith }) in
    let none = ap (λ s. count s k) is in absurd (omega arith)

-- the places of a tree stand
pub owned : (tree : Tree) (pool : Contents) (k : ℕ) → IsTree tree pool → Owns tree pool k → Stands pool k
owned tree pool k t o = owned_stands pool (shape_of tree pool) k t.stands.holds o

-- the bytes of a key stand at its place
pub key_there : (tree : Tree) (pool : Contents) (key : List ℕ) (place : ℕ) → IsTree tree pool → place_of key tree pool ≡ Some place → at_cell pool place ≡ Some key
key_there tree pool key place t is = place_stands pool (shape_of tree pool) key place t.stands.holds is

-- where a call changes no place of a tree, the tree stands with the same entries and the same places
module _ (tree : Tree) (old new : Contents) (t : IsTree tree old) (same : (k : ℕ) → Owns tree old k → at_cell new k ≡ at_cell old k) where
  form_new : IsTreeAt new tree.root (shape_of tree old)
  form_new = record { root = t.stands.root; holds = kept old new (shape_of tree old) t.stands.holds (λ k low. same k low); apart = t.stands.apart }

  pub still_tree : IsTree tree new
  still_tree = tree_is tree new (shape_of tree old) form_new t.rising t.counted

  pub still_entries : entries tree new ≡ entries tree old
  still_entries = ap flat (spelled_is new tree.root (shape_of tree old) form_new)

  pub still_places : key_places tree new ≡ key_places tree old
  still_places = ap key_cells (spelled_is new tree.root (shape_of tree old) form_new)

  -- a seat is still that of its key
  pub still_seat : (key : List ℕ) (seat : Seat) → IsSeat tree old key seat → IsSeat tree new key seat
  still_seat key seat h = seat_form (shape_of tree old) (shape_of tree new) key seat (sym (spelled_is new tree.root (shape_of tree old) form_new)) h

  pub still_owns : (k : ℕ) → Owns tree new k → Owns tree old k
  still_owns k o = let e = ap (λ s. count s k) (spelled_is new tree.root (shape_of tree old) form_new) in omega arith

  pub owns_still : (k : ℕ) → Owns tree old k → Owns tree new k
  owns_still k o = let e = ap (λ s. count s k) (spelled_is new tree.root (shape_of tree old) form_new) in omega arith
