-- What a DeltaMemStore is to its callers, read with its pool.
use Rattle.std.specs.Prelude.{◌≡◌, ℕ, ◌+◌, ◌<◌, ◌≤◌, ◌==◌, ◌&&◌, ◌||◌, ◌⊎◌, Bool, true, List, [], ◌∷◌, map, length, nat_lt, nat_le, None, if◌then◌else◌}
use Rattle.std.specs.List.{filter, sum_by, AllByRecursion}
use Rattle.kt_history.specs.declared.change.Change.{Change}
use Rattle.kt_history.specs.declared.changes.Delta.{Delta}
use Rattle.kt_history.specs.declared.operation.RowOp.{RowOp}
use Rattle.kt_history.specs.declared.target.Kindly.{Kindly}
use Rattle.kt_history.specs.Stores.{Steps, change_of}
use Rattle.kt_pool.specs.Contents.{Contents, at_cell, bytes_at, cells_for}
use Rattle.kt_tree.specs.Entries.{Entry}
use Rattle.kt_tree.specs.Shapes.{one_at}
use Rattle.kt_tree.specs.Takes.{Takes}
use Rattle.kt_tree.specs.Trees as trees
use Rattle.kt_tree.specs.declared.tree.Tree.{Tree}
use Rattle.kt_dms.specs.Keys.{ordinal_of, ts_of, IsKey}
use Rattle.kt_dms.specs.Changes.{change_in, change_len, SpellsChange}
use Rattle.kt_dms.specs.declared.store.DeltaMem.{DeltaMem}

-- its number
abbrev pub number_of : DeltaMem → ℕ
number_of s = s.id

-- what an entry of the tree stands for: the key says which row and when, and the value is the place of the change
abbrev pub delta_at : Contents → Entry → Delta
delta_at pool e = record { ordinal = ordinal_of e.key; ts = ts_of e.key; change = change_in (bytes_at pool e.value) }

-- the changes of a tree, by ordinal, then timestamp
abbrev pub deltas_in : Tree → Contents → List Delta
deltas_in tree pool = map (delta_at pool) (trees.entries tree pool)

-- the changes of the store
abbrev pub deltas_of : DeltaMem → Contents → List Delta
deltas_of s pool = deltas_in s.tree pool

-- the changes of one row, in their order
abbrev pub steps_for : ℕ → List Delta → Steps
steps_for n [] = []
steps_for n (d ∷ deltas) = if d.ordinal == n then (d.ts, d.change) ∷ steps_for n deltas else steps_for n deltas

-- the changes at or below a time
abbrev pub deltas_upto : ℕ → List Delta → List Delta
deltas_upto upto deltas = filter (λ (d : Delta). nat_le d.ts upto) deltas

-- changes of a row above a time
abbrev pub steps_above : ℕ → Steps → Steps
steps_above above steps = filter (λ (c : ℕ × Change). nat_lt above c.0) steps

-- whether a change stands before another: that of a lesser ordinal, or of the same one and a lesser timestamp
abbrev pub is_before : Delta → Delta → Bool
is_before a b = nat_lt a.ordinal b.ordinal || (a.ordinal == b.ordinal && nat_lt a.ts b.ts)

-- each change stands before those behind it
abbrev pub AreSorted : List Delta → Type 0
AreSorted [] = Unit {0}
AreSorted (d ∷ deltas) = AllByRecursion (λ e. is_before d e ≡ true) deltas × AreSorted deltas

-- one change more, in its place
abbrev pub with_delta : Delta → List Delta → List Delta
with_delta d [] = d ∷ []
with_delta d (e ∷ deltas) = if is_before e d then e ∷ with_delta d deltas else d ∷ e ∷ deltas

-- the operation's change of this kind, of a row at a timestamp
abbrev pub delta_by : ℕ → ℕ → Kindly → RowOp → Delta
delta_by ordinal ts kind op = record { ordinal = ordinal; ts = ts; change = change_of kind op.cells }

-- how many of the entries have their value at this cell
abbrev pub values_at : List Entry → ℕ → ℕ
values_at [] k = 0
values_at (e ∷ es) k = one_at e.value k + values_at es k

-- this cell begins a place of the store: that of a node, a key or a change
abbrev pub Owns : DeltaMem → Contents → ℕ → Type 0
Owns s pool k = trees.Owns s.tree pool k ⊎ (0 < values_at (trees.entries s.tree pool) k)

-- the cells of the pool that these changes take
abbrev pub values_had : Contents → List Entry → ℕ
values_had pool es = sum_by (λ (e : Entry). cells_for (length (bytes_at pool e.value))) es

-- the cells of the pool that the store has: those of its nodes and keys, and those of its changes
abbrev pub cells_had : DeltaMem → Contents → ℕ
cells_had s pool = sum_by (λ (e : Entry). trees.need e.key) (trees.entries s.tree pool) + values_had pool (trees.entries s.tree pool)

-- the entry is that of a change, which its place spells
pub record IsEntry (pool : Contents) (e : Entry) : Type 0 where
  pub key : IsKey e.key
  pub change : SpellsChange (bytes_at pool e.value)

-- the tree stands in this pool, and has in each entry a change whose place is its own
pub record IsHeld (held : Tree) (pool : Contents) : Type 0 where
  pub tree : trees.IsTree held pool
  pub each : AllByRecursion (IsEntry pool) (trees.entries held pool)
  pub once : (k : ℕ) → values_at (trees.entries held pool) k ≤ 1
  pub beside : (k : ℕ) → 0 < values_at (trees.entries held pool) k → ¬ trees.Owns held pool k

-- the store stands in this pool
abbrev pub IsStore : DeltaMem → Contents → Type 0
IsStore s pool = IsHeld s.tree pool

-- the cells of the pool that the change of an operation takes: those of a node, of a key and of the change
abbrev pub cells_taken : RowOp → ℕ
cells_taken op = 2 + cells_for (change_len op.cells)

-- the operation's change of this kind has joined the store
pub record Joins (s t : DeltaMem) (old new : Contents) (ordinal ts : ℕ) (op : RowOp) (kind : Kindly) : Type 0 where
  pub stands : IsStore t new
  pub joined : deltas_of t new ≡ with_delta (delta_by ordinal ts kind op) (deltas_of s old)
  pub takes : Takes old new (cells_taken op)
  pub had : cells_had t new ≡ cells_had s old + cells_taken op
  -- the new places were vacant, and every other place keeps its bytes
  pub keeps : (k : ℕ) → Owns s old k → Owns t new k
  pub grows : (k : ℕ) → Owns t new k → Owns s old k ⊎ (at_cell old k ≡ None)
  pub frame : (k : ℕ) → ¬ Owns t new k → at_cell new k ≡ at_cell old k
  pub number : number_of t ≡ number_of s
