-- How far a walk through the changes has come.
use Rattle.std.specs.Prelude.{◌≡◌, ℕ, ◌+◌, ◌<◌, ◌==◌, ◌&&◌, ◌||◌, Bool, true, nat_lt, nat_le, List, [], ◌∷◌, ◌++◌, map, length, Option, None, Some, if◌then◌else◌}
use Rattle.std.specs.List.{filter}
use Rattle.kt_history.specs.declared.change.Change.{Change}
use Rattle.kt_history.specs.declared.changes.Delta.{Delta}
use Rattle.kt_history.specs.Stores.{Steps}
use Rattle.kt_pool.specs.Contents.{Contents, at_cell, bytes_at, used}
use Rattle.kt_tree.specs.Entries.{Entry}
use Rattle.kt_tree.specs.InOrder.{IsWalk, to_come}
use Rattle.kt_tree.specs.Trees as trees
use Rattle.kt_tree.specs.declared.tree.Pair.{Pair}
use Rattle.kt_tree.specs.declared.tree.Tree.{Tree}
use Rattle.kt_tree.specs.declared.walk.Walk.{Walk}
use Rattle.kt_dms.specs.Keys.{ordinal_of, ts_of}
use Rattle.kt_dms.specs.Changes.{change_in}
use Rattle.kt_dms.specs.Stores.{delta_at, deltas_upto, values_at, values_had}
use Rattle.kt_dms.specs.declared.rows.Placed.{Placed}

-- the changes of one row, each with its place
abbrev pub placed_for : ℕ → List Entry → List Placed
placed_for n [] = []
placed_for n (e ∷ es) = if ordinal_of e.key == n then (record { ts = ts_of e.key; cell = e.value }) ∷ placed_for n es else placed_for n es

-- whether a change lies above a timestamp, if there is one
abbrev pub is_later : Option ℕ → Placed → Bool
is_later None p = true
is_later (Some ts) p = nat_lt ts p.ts

-- whether an entry is of this row and above the timestamp, or of a later row
abbrev pub is_behind : ℕ → Option ℕ → Entry → Bool
is_behind n None e = nat_le n (ordinal_of e.key)
is_behind n (Some ts) e = nat_lt n (ordinal_of e.key) || (n == ordinal_of e.key && nat_lt ts (ts_of e.key))

-- the change of an entry with its place, where it is of this row
abbrev pub placed_if : ℕ → Option Entry → Option Placed
placed_if n None = None
placed_if n (Some e) = if ordinal_of e.key == n then Some (record { ts = ts_of e.key; cell = e.value }) else None

-- the changes that are still to come
abbrev pub later : Option ℕ → List Placed → List Placed
later after placed = filter (is_later after) placed

abbrev pub step_at_place : Contents → Placed → ℕ × Change
step_at_place pool p = (p.ts, change_in (bytes_at pool p.cell))

abbrev pub steps_at_places : Contents → List Placed → Steps
steps_at_places pool placed = map (step_at_place pool) placed

-- the changes of so many entries are listed behind those that were, and the walk comes to the others
pub record Walks (tree : Tree) (pool : Contents) (upto : ℕ) (walk : Walk) (n : ℕ) (old now : List Delta) : Type 0 where
  pub stands : IsWalk walk pool
  pub front : List Entry
  pub is : trees.entries tree pool ≡ front ++ to_come walk pool
  pub count : length front ≡ n
  pub listed : now ≡ old ++ deltas_upto upto (map (delta_at pool) front)

-- the first of some entries
abbrev pub first_of : List Entry → Option Entry
first_of [] = None
first_of (e ∷ es) = Some e

-- the changes of the first entries are given back, and this pair is that of the next one
pub record Releasing (tree : Tree) (old now : Contents) (next : Option Pair) : Type 0 where
  pub gone : List Entry
  pub left : List Entry
  pub is : trees.entries tree old ≡ gone ++ left
  pub next_is : trees.IsPairOf tree now next (first_of left)
  pub size : length now.places ≡ length old.places
  pub reserved : now.reserved ≡ old.reserved
  pub fewer : used now + values_had old gone ≡ used old
  pub free : (k : ℕ) → 0 < values_at gone k → at_cell now k ≡ None
  pub frame : (k : ℕ) → values_at gone k ≡ 0 → at_cell now k ≡ at_cell old k

-- the changes of all entries are given back
pub record Released (tree : Tree) (old new : Contents) : Type 0 where
  pub size : length new.places ≡ length old.places
  pub reserved : new.reserved ≡ old.reserved
  pub fewer : used new + values_had old (trees.entries tree old) ≡ used old
  pub free : (k : ℕ) → 0 < values_at (trees.entries tree old) k → at_cell new k ≡ None
  pub frame : (k : ℕ) → values_at (trees.entries tree old) k ≡ 0 → at_cell new k ≡ at_cell old k
