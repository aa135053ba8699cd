-- What a store keeps of its rows: the history of each. And what a change adds to it.
use Rattle.std.specs.Prelude.{◌≡◌, ◌≤◌, ◌<◌, ◌+◌, ◌/◌, ℕ, Bool, true, false, is_some, List, [], ◌∷◌, ◌++◌, map, length, Option, Some, None, unwrap_or, nat_le, ◌==◌, if◌then◌else◌}
use Rattle.std.specs.Option.{option_map}
use Rattle.std.specs.List.{filter, flat_map}
use Rattle.std.specs.FinMap.Entries.{find, put}
use Rattle.kt_pool.specs.Contents.{Contents, used}
use Rattle.kt_history.specs.declared.change.Change.{Change}
use Rattle.kt_history.specs.declared.change.Change.TheVariants as change
use Rattle.kt_history.specs.declared.changes.KeyChange.{KeyChange}
use Rattle.kt_history.specs.declared.operation.OpKind.{OpKind}
use Rattle.kt_history.specs.declared.operation.OpKind.TheVariants.{Insert, Upsert, Update, Delete, InsertIgnore, UpdateIgnore, DeleteIgnore}
use Rattle.kt_history.specs.declared.operation.RowOp.{RowOp}
use Rattle.kt_history.specs.declared.target.Kindly.{Kindly}
use Rattle.kt_history.specs.declared.target.Kindly.TheVariants.{Ins, Upd, Del}
use Rattle.kt_history.specs.Rows.{Row, apply, key_cmp}
use Rattle.kt_history.specs.Operations.{op_len}

-- changes of one row, by rising timestamp
abbrev pub Steps : Type 0
Steps = List (ℕ × Change)

-- a row: what it was before its changes, and these
pub record Hist : Type 0 where
  pub first : Option Row
  pub steps : Steps

-- the row after the changes at or below t
abbrev pub after_steps : ℕ → Steps → Option Row → Option Row
after_steps t [] row = row
after_steps t (c ∷ steps) row = after_steps t steps (if nat_le c.0 t then apply c.1 row else row)

-- the row at t
abbrev pub row_of : ℕ → Hist → Option Row
row_of t h = after_steps t h.steps h.first

-- the row after all changes, whatever their times
abbrev pub apply_all : Steps → Option Row → Option Row
apply_all [] row = row
apply_all (c ∷ steps) row = apply_all steps (apply c.1 row)

abbrev pub last_row : Hist → Option Row
last_row h = apply_all h.steps h.first

-- the change at t, the first where there are two
abbrev pub step_at : ℕ → Steps → Option Change
step_at t [] = None
step_at t (c ∷ steps) = if c.0 == t then Some c.1 else step_at t steps

-- its change at t
abbrev pub step_of : ℕ → Hist → Option Change
step_of t h = step_at t h.steps

-- every change lies below
abbrev pub Under : ℕ → Steps → Type 0
Under ts [] = Unit {0}
Under ts (c ∷ steps) = (c.0 < ts) × Under ts steps

-- with one change more
abbrev pub push : ℕ → Change → Hist → Hist
push ts c h = record h { steps = h.steps ++ (ts, c) ∷ [] }

-- what a store has of a key that it lacks
abbrev pub never : Hist
never = record { first = None; steps = [] }

-- a store: the histories of its rows, by key
abbrev pub Store : Type 0
Store = List (List ℕ × Hist)

-- what a store has of a key
abbrev pub hist_in : List ℕ → Store → Hist
hist_in q store = unwrap_or (find key_cmp q store) never

-- whether the store has the operation's row after all changes
abbrev pub is_there : RowOp → Store → Bool
is_there op store = is_some (last_row (hist_in op.key store))

-- the kind of change that an operation makes to a row that is there, or is not
abbrev pub kind_made : OpKind → Bool → Option Kindly
kind_made Insert false = Some Ins
kind_made Insert true = None
kind_made Upsert false = Some Ins
kind_made Upsert true = Some Upd
kind_made Update false = None
kind_made Update true = Some Upd
kind_made Delete false = None
kind_made Delete true = Some Del
kind_made InsertIgnore false = Some Ins
kind_made InsertIgnore true = None
kind_made UpdateIgnore false = None
kind_made UpdateIgnore true = Some Upd
kind_made DeleteIgnore false = None
kind_made DeleteIgnore true = Some Del

-- the change of this kind, whose cells are these
abbrev pub change_of : Kindly → Row → Change
change_of Ins cells = change.Ins cells
change_of Upd cells = change.Upd cells
change_of Del cells = change.Del

-- the change that an operation makes to a row that is there, or is not
abbrev pub change_by : RowOp → Bool → Option Change
change_by op there = option_map (λ kind. change_of kind op.cells) (kind_made op.kind there)

-- a store with a change more, if there is one
abbrev pub with_change : List ℕ → ℕ → Option Change → Store → Store
with_change q ts None store = store
with_change q ts (Some c) store = put key_cmp q (push ts c (hist_in q store)) store

-- a change of a key, as lists of changes have it
abbrev pub key_change : List ℕ → ℕ × Change → KeyChange
key_change key c = record { key = key; ts = c.0; change = c.1 }

-- the changes of a key's row at or below a time, as they were made
abbrev pub row_changes : ℕ → List ℕ → Steps → List KeyChange
row_changes upto key steps = map (key_change key) (filter (λ (c : ℕ × Change). nat_le c.0 upto) steps)

-- the changes of all rows at or below a time, by rising key
abbrev pub changes_upto : ℕ → Store → List KeyChange
changes_upto upto store = flat_map (λ row. row_changes upto row.0 row.1.steps) store

-- the most cells of the pool that one store takes for an operation: half of what a write needs for it
abbrev pub share : RowOp → ℕ
share op = (op_len op + 55) / 56 + 4

-- so many reserved cells at most are taken, and the size stays
pub record TakesUpTo (most : ℕ) (old new : Contents) : Type 0 where
  pub cells : ℕ
  pub few : cells ≤ most
  pub used : used new ≡ used old + cells
  pub reserved : new.reserved + cells ≡ old.reserved
  pub size : length new.places ≡ length old.places
