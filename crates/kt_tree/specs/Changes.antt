-- What a change to a tree needs, and what it leaves.
use Rattle.std.specs.Prelude.{◌≡◌, ℕ, ◌+◌, ◌<◌, ◌≤◌, List, ◌++◌, length, None}
use Rattle.std.specs.List.{find, sum_by}
use Rattle.kt_pool.specs.Contents.{Contents, at_cell, used}
use Rattle.kt_tree.specs.Entries.{Entry, AreBelow, AreAbove, IsRising, is_at}
use Rattle.kt_tree.specs.Shapes.{Shape, leaf, node, IsTreeAt, Holds, root_of, flat, key_cells, count, Rewrites}
use Rattle.kt_tree.specs.Trees.{need}

-- the key is not among these
abbrev pub IsAbsent : List ℕ → List Entry → Type 0
IsAbsent key es = find (is_at key) es ≡ None

-- the pool has, from this cell on, a tree of this form without the key
pub record Lacks (pool : Contents) (root : ℕ) (key : List ℕ) (s : Shape) : Type 0 where
  pub tree : IsTreeAt pool root s
  pub rising : IsRising (flat s)
  pub absent : IsAbsent key (flat s)

-- the tree of this form is now two: one with the keys below this one, and one with those above
pub record Splits (old new : Contents) (s : Shape) (key : List ℕ) (left right : ℕ) : Type 0 where
  pub low : Shape
  pub high : Shape
  pub low_root : left ≡ root_of low
  pub high_root : right ≡ root_of high
  pub low_holds : Holds new low
  pub high_holds : Holds new high
  pub same : flat low ++ flat high ≡ flat s
  pub same_keys : key_cells low ++ key_cells high ≡ key_cells s
  pub same_places : (k : ℕ) → count low k + count high k ≡ count s k
  pub below : AreBelow key (flat low)
  pub above : AreAbove key (flat high)
  pub rewrites : Rewrites old new (count s)

-- from this cell on there is now a tree with these entries and these places of their keys, which has the places that are
-- counted here
pub record Becomes (old new : Contents) (root : ℕ) (es ks : List Entry) (own : ℕ → ℕ) : Type 0 where
  pub form : Shape
  pub root_is : root ≡ root_of form
  pub holds : Holds new form
  pub same : flat form ≡ es
  pub same_keys : key_cells form ≡ ks
  pub places : (k : ℕ) → count form k ≡ own k
  pub rewrites : Rewrites old new own

-- a node alone, with its key
abbrev pub alone : ℕ → List ℕ → ℕ → ℕ → Shape
alone cell key place value = node cell leaf key place value leaf

-- a node stands alone beside a tree without its key
pub record StandsBy (pool : Contents) (root fresh : ℕ) (key : List ℕ) (s : Shape) (place value : ℕ) : Type 0 where
  pub lacks : Lacks pool root key s
  pub holds : Holds pool (alone fresh key place value)
  pub apart : (k : ℕ) → count s k + count (alone fresh key place value) k ≤ 1

-- the places of the tree are free, and no other has changed
pub record Clears (old new : Contents) (s : Shape) : Type 0 where
  pub size : length new.places ≡ length old.places
  pub reserved : new.reserved ≡ old.reserved
  pub used : used new + sum_by (λ (e : Entry). need e.key) (flat s) ≡ used old
  pub gone : (k : ℕ) → 0 < count s k → at_cell new k ≡ None
  pub frame : (k : ℕ) → count s k ≡ 0 → at_cell new k ≡ at_cell old k
