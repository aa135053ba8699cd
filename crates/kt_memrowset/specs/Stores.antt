-- What a MemRowSet is to its callers, read with its pool.
use Rattle.std.specs.Prelude.{◌≡◌, ℕ, zero, suc, ◌+◌, ◌<◌, ◌≤◌, ◌==◌, ◌⊎◌, Bool, true, false, cond, is_some, List, [], ◌∷◌, ◌++◌, map, length, drop, Option, None}
use Rattle.std.specs.List.{sum_by}
use Rattle.std.specs.List.{find as find_first}
use Rattle.std.specs.Option.{option_map}
use Rattle.byteorder.specs.Endian.{little_number}
use Rattle.kt_base.specs.declared.cell.Cell.{Cell}
use Rattle.kt_history.specs.declared.change.Change.{Change}
use Rattle.kt_history.specs.declared.changes.KeyChange.{KeyChange}
use Rattle.kt_history.specs.declared.operation.RowOp.{RowOp}
use Rattle.kt_history.specs.declared.target.Kindly.{Kindly}
use Rattle.kt_history.specs.declared.target.Kindly.TheVariants.{Ins, Upd, Del}
use Rattle.kt_history.specs.Rows.{Row, key_cmp}
use Rattle.std.specs.FinMap.Entries.{find, put}
use Rattle.kt_history.specs.Operations.{cell_len}
use Rattle.kt_history.specs.Stores.{Hist, Store, after_steps, push, hist_in, last_row, change_of}
use Rattle.kt_pool.specs.Contents.{Contents, at_cell, bytes_at, cells_for, used}
use Rattle.kt_tree.specs.Entries.{Entry, is_past}
use Rattle.kt_tree.specs.Takes.{Takes}
use Rattle.kt_tree.specs.Trees as trees
use Rattle.kt_memrowset.specs.Links.{nothing, Link, Chains, chain, cells_of, times, newest, IsMarked, IsChainAt, steps_of}
use Rattle.kt_tree.specs.InOrder.{IsWalk, to_come}
use Rattle.kt_tree.specs.declared.walk.Walk.{Walk}
use Rattle.kt_memrowset.specs.declared.store.MemRowSet.{MemRowSet}
use Rattle.kt_memrowset.specs.declared.times.Times.{Times}
use Rattle.kt_memrowset.specs.Times.{changes_of, changes_in}

-- its number
abbrev pub number_of : MemRowSet → ℕ
number_of s = s.id

-- it takes no insert
abbrev pub is_frozen : MemRowSet → Bool
is_frozen s = s.frozen

-- a row that had nothing before its changes
abbrev pub hist_of : List Link → Hist
hist_of links = record { first = None; steps = steps_of links }

-- each key of the tree with the changes that stand from its value's place on
abbrev pub row_at : Contents → Entry → List ℕ × Hist
row_at pool e = (e.key, hist_of (chain pool e.value))

-- the store: its rows by rising key
abbrev pub store_of : MemRowSet → Contents → Store
store_of s pool = map (row_at pool) (trees.entries s.tree pool)

-- whether there is a row after a change of this kind
abbrev pub stays : Kindly → Bool
stays Ins = true
stays Upd = true
stays Del = false

-- the last change tells whether there is a row after all of them
abbrev pub IsTold : List Link → Type 0
IsTold [] = Unit {0}
IsTold (l ∷ links) = is_some (last_row (hist_of (l ∷ links))) ≡ stays (newest l links).head.kind

-- the changes of a row stand
pub record RowStands (pool : Contents) (cell : ℕ) (links : List Link) : Type 0 where
  pub chains : Chains pool cell links
  pub marked : IsMarked links
  pub told : IsTold links

-- each value is so
abbrev pub EachValue : (ℕ → Type 0) → List Entry → Type 0
EachValue P [] = Unit {0}
EachValue P (e ∷ es) = P e.value × EachValue P es

-- how many of the rows' changes are at this cell
abbrev pub in_rows : Contents → List Entry → ℕ → ℕ
in_rows pool [] k = 0
in_rows pool (e ∷ es) k = times (cells_of (chain pool e.value)) k + in_rows pool es k

-- the cell of the change that the store took before this one
abbrev pub before_at : Contents → ℕ → ℕ
before_at pool cell = little_number 4 (drop 8 (bytes_at pool cell))

-- from this cell on these places stand, each taken after the next
abbrev pub Trails : Contents → ℕ → List ℕ → Type 0
Trails pool cell [] = cell ≡ nothing
Trails pool cell (c ∷ cells) = (cell ≡ c) × (c < nothing) × (23 ≤ length (bytes_at pool c)) × Trails pool (before_at pool c) cells

abbrev pub trail_at : Contents → ℕ → ℕ → List ℕ
trail_at pool zero cell = []
trail_at pool (suc n) cell = cond (cell == nothing) [] (cell ∷ trail_at pool n (before_at pool cell))

-- these places stand from this cell on, each once
pub record IsTrailAt (pool : Contents) (cell : ℕ) (cells : List ℕ) : Type 0 where
  pub trails : Trails pool cell cells
  pub once : (k : ℕ) → times cells k ≤ 1

-- the cells of the pool that these places take
abbrev pub cells_at : Contents → List ℕ → ℕ
cells_at pool [] = 0
cells_at pool (c ∷ cells) = cells_for (length (bytes_at pool c)) + cells_at pool cells

-- these places are gone, with the cells that they took, and no other has changed
pub record Releases (old new : Contents) (cells : List ℕ) : Type 0 where
  pub size : length new.places ≡ length old.places
  pub reserved : new.reserved ≡ old.reserved
  pub fewer : used new + cells_at old cells ≡ used old
  pub gone : (k : ℕ) → 0 < times cells k → at_cell new k ≡ None
  pub frame : (k : ℕ) → times cells k ≡ 0 → at_cell new k ≡ at_cell old k

-- of these places those from this cell on still stand
pub record Releasing (old now : Contents) (cells : List ℕ) (cell : ℕ) : Type 0 where
  pub rest : List ℕ
  pub stand : IsTrailAt now cell rest
  pub size : length now.places ≡ length old.places
  pub reserved : now.reserved ≡ old.reserved
  pub fewer : used now + cells_at old cells ≡ used old + cells_at now rest
  pub part : (k : ℕ) → times rest k ≤ times cells k
  pub gone : (k : ℕ) → 0 < times cells k → times rest k ≡ 0 → at_cell now k ≡ None
  pub frame : (k : ℕ) → times cells k ≡ 0 → at_cell now k ≡ at_cell old k

-- the first key of the store above this one, or the first of all
abbrev pub key_past : Option (List ℕ) → Store → Option (List ℕ)
key_past after store = option_map (λ row. row.0) (find_first (λ row. is_past after row.0) store)

-- the cells of all changes of the store, from the newest
abbrev pub trail : MemRowSet → Contents → List ℕ
trail s pool = trail_at pool (length pool.places) s.newest

-- the cells of the pool that a store has: those of its nodes and keys, and those of its changes
abbrev pub cells_had : MemRowSet → Contents → ℕ
cells_had s pool = sum_by (λ (e : Entry). trees.need e.key) (trees.entries s.tree pool) + cells_at pool (trail s pool)

-- this cell begins a place of the store: that of a node, a key or a change
abbrev pub Owns : MemRowSet → Contents → ℕ → Type 0
Owns s pool k = trees.Owns s.tree pool k ⊎ (0 < times (trail s pool) k)

-- the store stands in this pool
pub record IsStore (s : MemRowSet) (pool : Contents) : Type 0 where
  pub tree : trees.IsTree s.tree pool
  pub rows : EachValue (λ cell. RowStands pool cell (chain pool cell)) (trees.entries s.tree pool)
  pub trails : Trails pool s.newest (trail s pool)
  pub once : (k : ℕ) → times (trail s pool) k ≤ 1
  pub beside : (k : ℕ) → 0 < times (trail s pool) k → ¬ trees.Owns s.tree pool k
  pub within : (k : ℕ) → in_rows pool (trees.entries s.tree pool) k ≤ times (trail s pool) k

-- the bytes of a change with these cells
abbrev pub link_len : Row → ℕ
link_len cells = 23 + sum_by (λ (c : ℕ × Cell). 2 + cell_len c.1) cells

-- and the cells of the pool that it takes
abbrev pub link_need : Row → ℕ
link_need cells = cells_for (link_len cells)

-- what is still to be done from this cell on, at this row, leads to the row at t of the changes from `first` on
pub record Leads (pool : Contents) (first cell t : ℕ) (row : Option Row) : Type 0 where
  pub links : List Link
  pub stand : IsChainAt pool cell links
  pub same : after_steps t (steps_of links) row ≡ after_steps t (steps_of (chain pool first)) None

-- the cells that the change of an operation takes of this store: its own, and those of a new key
abbrev pub cells_taken : RowOp → Store → ℕ
cells_taken op store = link_need op.cells + cond (is_some (find key_cmp op.key store)) 0 (trees.need op.key)

-- the change of this kind, with the cells of the operation
abbrev pub change_by : Kindly → RowOp → Change
change_by kind op = change_of kind op.cells

-- the operation's change has joined the store
pub record Joins (s t : MemRowSet) (old new : Contents) (op : RowOp) (ts : ℕ) (kind : Kindly) : Type 0 where
  pub stands : IsStore t new
  pub joined : store_of t new ≡ put key_cmp op.key (push ts (change_by kind op) (hist_in op.key (store_of s old))) (store_of s old)
  pub takes : Takes old new (cells_taken op (store_of s old))
  pub had : cells_had t new ≡ cells_had s old + cells_taken op (store_of s old)
  -- the new places were vacant, and every other place keeps its bytes
  pub keeps : (k : ℕ) → Owns s old k → Owns t new k
  pub grows : (k : ℕ) → Owns t new k → Owns s old k ⊎ (at_cell old k ≡ None)
  pub frame : (k : ℕ) → ¬ Owns t new k → at_cell new k ≡ at_cell old k
  pub number : number_of t ≡ number_of s
  pub frozen : is_frozen t ≡ is_frozen s

-- the changes from this cell on are still to be listed behind these
pub record Lists (pool : Contents) (first cell : ℕ) (times : Times) (key : List ℕ) (old now : List KeyChange) : Type 0 where
  pub links : List Link
  pub stand : IsChainAt pool cell links
  pub same : now ++ changes_of times key (steps_of links) ≡ old ++ changes_of times key (steps_of (chain pool first))

-- the changes of so many rows are listed, and the walk comes to the others
pub record Walks (s : MemRowSet) (pool : Contents) (times : Times) (walk : Walk) (n : ℕ) (now : List KeyChange) : Type 0 where
  pub stands : IsWalk walk pool
  pub front : List Entry
  pub is : trees.entries s.tree pool ≡ front ++ to_come walk pool
  pub count : length front ≡ n
  pub listed : now ≡ changes_in times (map (row_at pool) front)
