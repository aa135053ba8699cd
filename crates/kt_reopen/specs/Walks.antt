-- How far an operation, a write and a log are done.
use Rattle.std.specs.Prelude.{◌≡◌, ◌≤◌, ℕ, Bool, true, false, List, map, take, Option, Some, None, slice_get}
use Rattle.std.specs.List.{AllByRecursion}
use Rattle.kt_history.specs.declared.operation.RowOp.{RowOp}
use Rattle.kt_history.specs.declared.target.Kindly.{Kindly}
use Rattle.kt_history.specs.declared.target.Target.{Target}
use Rattle.kt_history.specs.Rows.{Row}
use Rattle.kt_history.specs.Operations.{effect, need, DifferentKeys}
use Rattle.kt_history.specs.Stores.{Store, hist_in, share}
use Rattle.kt_histlaws.specs.Flights.{AllOps}
use Rattle.kt_records.specs.declared.entry.CommitRow.{CommitRow}
use Rattle.kt_memrowset.specs.Stores.{is_frozen}
use Rattle.kt_super.specs.declared.meta.Meta.{Meta}
use Rattle.kt_content.specs.Places.{Place, row_before}
use Rattle.kt_content.specs.KeyOps.{may_join}
use Rattle.kt_content.specs.Opening.{Placed, HasRows}
use Rattle.kt_reopen.specs.declared.stores.Opening.{Opening}
use Rattle.kt_reopen.specs.Bare.{bare, places_under, PlacesApart}
use Rattle.kt_reopen.specs.Needed.{AreFew, replayed}
use Rattle.kt_reopen.specs.Standing.{placed, places_in, names_in, change_by, AreKeptIn, KeyUnderIn, KeyUnderAt, JoinsAt}
use Rattle.kt_reopen.specs.Steps.{had_in, had_at}

-- an operation of this time may be done on a key of the stores
pub record MayDo (o : Opening) (ts : ℕ) (q : List ℕ) : Type 0 where
  pub kept : AreKeptIn o
  pub apart : PlacesApart (places_in o)
  pub thawed : is_frozen o.mem ≡ false
  pub under : KeyUnderIn ts q o

-- on that of a store at a place
pub record MayDoAt (o : Opening) (ts : ℕ) (q : List ℕ) (at : ℕ) : Type 0 where
  pub kept : AreKeptIn o
  pub thawed : is_frozen o.mem ≡ false
  pub under : KeyUnderAt ts q at o

-- and those of a write, whose COMMIT tells of each, if there is one
pub record MayDoAll (o : Opening) (m : Meta) (ts : ℕ) (ops : List RowOp) (told : Option (List CommitRow)) : Type 0 where
  pub kept : AreKeptIn o
  pub apart : PlacesApart (places_in o)
  pub thawed : is_frozen o.mem ≡ false
  pub may : AllOps (λ (op : RowOp). MayDo o ts op.key) ops
  pub places : places_in o ≡ places_under (bare m)
  pub keys : DifferentKeys ops
  pub rows : HasRows ops told
  pub few : AreFew told
  pub room : need (replayed (bare m) ops told) ≤ o.pool.reserved

-- the row of a key just before a time in the store at a place
abbrev pub row_of_store : ℕ → List ℕ → Option (Place × Store) → Option Row
row_of_store ts q None = None
row_of_store ts q (Some s) = row_before ts (hist_in q s.1)

abbrev pub row_nth : ℕ → List ℕ → ℕ → Placed → Option Row
row_nth ts q at stores = row_of_store ts q (slice_get stores at)

-- An operation fits the store at a place, which has taken its change; or it does not
abbrev pub FitsAt : Opening → Opening → ℕ → ℕ → RowOp → Bool → Type 0
FitsAt o n at ts op true = (kind : Kindly) × JoinsAt o n at ts op kind (share op)
    × ((fill : Row) (p : Place) → slice_get (places_in o) at ≡ Some p → may_join p (effect fill op.kind op.cells (row_nth ts op.key at (placed fill o))).0 ≡ Some (change_by fill kind op))
FitsAt o n at ts op false = (fill : Row) (p : Place) → slice_get (places_in o) at ≡ Some p → may_join p (effect fill op.kind op.cells (row_nth ts op.key at (placed fill o))).0 ≡ None

-- the first store that had the row of a key just before a time, or none had it
abbrev pub IsFirst : ℕ → List ℕ → Option ℕ → Placed → Type 0
IsFirst ts q None stores = AllByRecursion (λ (s : Place × Store). had_in ts q s ≡ false) stores
IsFirst ts q (Some at) stores = AllByRecursion (λ (s : Place × Store). had_in ts q s ≡ false) (take at stores) × (had_at ts q at stores ≡ Some true)

-- the name of each store under its place
abbrev pub NamesEach : (Place → Target) → Opening → Type 0
NamesEach name o = names_in o ≡ map name (places_in o)
