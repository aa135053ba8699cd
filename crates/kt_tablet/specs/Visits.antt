-- When an event may come, and what it did.
use Rattle.std.specs.Prelude.{◌-◌, ◌≡◌, ◌≢◌, ◌<◌, ◌≤◌, ℕ, ◌==◌, true, false, List, [], ◌∷◌, ◌++◌, length, map, slice_get, Option, Some, None}
use Rattle.std.specs.List.{list_any, filter, find, remove}
use Rattle.kt_history.specs.declared.operation.RowOp.{RowOp}
use Rattle.kt_history.specs.declared.change.Outcome.{Outcome}
use Rattle.kt_history.specs.declared.target.Target.{Target}
use Rattle.kt_history.specs.History.{rows_at}
use Rattle.kt_history.specs.Operations.{need, share_key, effect_on, outcomes_on}
use Rattle.kt_records.specs.declared.entry.CommitRow.{CommitRow}
use Rattle.kt_tablet.specs.declared.tablet.write.BeginNo.{BeginNo}
use Rattle.kt_tablet.specs.declared.tablet.write.BeginNo.TheVariants as no
use Rattle.kt_tablet.specs.Rows.{commit_row, AreRecorded}
use Rattle.kt_histlaws.specs.Histories.{hists, on_nth}
use Rattle.kt_histlaws.specs.Flights.{AllUnder}
use Rattle.kt_histlaws.specs.Parts.{IsOfAnother}
use Rattle.kt_stores.specs.Shelf.{place_of}
use Rattle.kt_histlaws.specs.Pending.{Aloft}
use Rattle.kt_tablet.specs.Views.{View, unpromised}
use Rattle.kt_history.specs.declared.scan.At.TheVariants.{Looked}
use Rattle.kt_history.specs.Machine.{nth, command_at, IfScan, IfMark, IfWrite, IsChore, next_timestamp, least}
use Rattle.kt_histlaws.specs.Core.{Core, flown_by, run_past}
use Rattle.kt_histlaws.specs.Events.{looked, marked, raised, begun, answered, applied, advance, ended, IsNextOp, IsOver}
use Rattle.kt_history.specs.declared.event.Event.TheVariants as event

-- command i is the next of session s, which has drawn no time and of which no write flies
pub record IsAt (core : Core) (s i : ℕ) : Type 0 where
  pub next : nth core.turns s ≡ Some (record { next = i; look = None })
  pub rests : list_any (λ w. w.s == s) (map flown_by core.aloft) ≡ false

-- a scan of the present may draw its time
pub record MayLook (core : Core) (s i : ℕ) : Type 0 where
  pub at : IsAt core s i
  pub scan : IfScan (command_at core.work s i) (λ w. w ≡ Looked)

-- it has drawn t at the clock's reading m
pub record HasLooked (old new : Core) (s i t : ℕ) : Type 0 where
  pub m : ℕ
  pub time : t ≡ next_timestamp old.c m
  pub core : new ≡ looked old s i t m

-- a mark may rise
pub record MayMark (core : Core) (s i to : ℕ) : Type 0 where
  pub at : IsAt core s i
  pub command : IfMark (command_at core.work s i) (λ t. t ≡ to)

-- it has risen to a, as far as it may
pub record HasMarked (old new : Core) (s i to a : ℕ) : Type 0 where
  pub value : a ≡ raised old to
  pub core : new ≡ marked old s i a

-- a maintenance command may be answered
pub record MayAnswerChore (core : Core) (s i : ℕ) : Type 0 where
  pub at : IsAt core s i
  pub chore : IsChore (command_at core.work s i)

-- the flying write of a session
abbrev pub flight_of : ℕ → List Aloft → Option Aloft
flight_of s aloft = find (λ w. w.s == s) aloft

-- the next row of the flying write of a session may be applied
pub record MayApply (core : Core) (s at : ℕ) : Type 0 where
  pub flight : Aloft
  pub flies : flight_of s core.aloft ≡ Some flight
  pub next : flight.applied ≡ at
  pub more : at < length flight.ops

-- it is applied: nothing changes but that write and the stores; and where all that these have of the key lies below the write, its
-- change, if any, is in the first store that has the row, or else in the first of all
pub record HasApplied (old new : Core) (s at : ℕ) (outcome : Outcome) : Type 0 where
  pub j : ℕ
  pub flight : Aloft
  pub flies : flight_of s old.aloft ≡ Some flight
  pub op : RowOp
  pub next : IsNextOp j old.aloft flight.ts op
  pub row : slice_get flight.ops at ≡ Some op
  pub core : new ≡ record old { aloft = on_nth j advance old.aloft; stores = new.stores }
  pub stores : AllUnder flight.ts (hists op.key old.stores) → new ≡ applied old j (place_of op.key old.stores) flight.ts op
  pub many : length new.stores ≡ length old.stores
  pub now : flight_of s new.aloft ≡ Some (advance flight)
  pub own : (k : ℕ) → k ≢ s → IsOfAnother j old.aloft k

-- and what is written of it for the log is its outcome, and the name of the store to which the operation goes: the first that has the
-- row, or else the first of all
pub record HasNoted {C : Type 0} (old new : View C) (s at : ℕ) (outcome : Outcome) : Type 0 where
  pub j : ℕ
  pub flight : Aloft
  pub flies : slice_get old.core.aloft j ≡ Some flight
  pub own : flight.s ≡ s
  pub op : RowOp
  pub row : slice_get flight.ops at ≡ Some op
  pub name : Target
  pub named : slice_get old.names (place_of op.key old.core.stores) ≡ Some name
  pub notes : new.notes ≡ on_nth j (λ rows. rows ++ commit_row name outcome ∷ []) old.notes

-- the outcome is the run's: what the operation does to the rows just before the write
pub record IsRunOutcome (core : Core) (s at : ℕ) (outcome : Outcome) : Type 0 where
  pub flight : Aloft
  pub flies : flight_of s core.aloft ≡ Some flight
  pub op : RowOp
  pub row : slice_get flight.ops at ≡ Some op
  pub outcome_is : outcome ≡ (effect_on core.work.fill (rows_at (run_past core) (flight.ts - 1)) op).1

-- the flying write of a session may end: it is the session's next command, and all its rows are applied
pub record MayEnd (core : Core) (s : ℕ) : Type 0 where
  pub flight : Aloft
  pub flies : flight_of s core.aloft ≡ Some flight
  pub turn : nth core.turns s ≡ Some (record { next = flight.i; look = None })
  pub over : IsOver s core.aloft

-- it has ended, as command i at ts
pub record HasEnded (old new : Core) (s i ts : ℕ) : Type 0 where
  pub flight : Aloft
  pub flies : flight_of s old.aloft ≡ Some flight
  pub index : i ≡ flight.i
  pub time : ts ≡ flight.ts
  pub core : new ≡ ended old s i ts

-- what a flying write of the session holds: its operations, and their keys
abbrev pub HeldBy : Core → ℕ → List RowOp → List (List ℕ) → Type 0
HeldBy core s ops keys = (flight : Aloft) → flight_of s core.aloft ≡ Some flight → (ops ≡ flight.ops) × (keys ≡ map (λ op. op.key) flight.ops)

-- what is told of it: the outcomes that the run says, and for the log each with the store that was changed
pub record IsDone (core : Core) (names : List Target) (s : ℕ) (outcomes : List Outcome) (rows : List CommitRow) : Type 0 where
  pub flight : Aloft
  pub flies : flight_of s core.aloft ≡ Some flight
  pub each : outcomes ≡ outcomes_on core.work.fill (rows_at (run_past core) (flight.ts - 1)) flight.ops
  pub told : AreRecorded names outcomes rows

-- what is told of it, whatever opening found: an outcome for each operation, and for the log each with the store that was changed
pub record IsWritten (core : Core) (names : List Target) (s : ℕ) (outcomes : List Outcome) (rows : List CommitRow) : Type 0 where
  pub flight : Aloft
  pub flies : flight_of s core.aloft ≡ Some flight
  pub count : length outcomes ≡ length flight.ops
  pub told : AreRecorded names outcomes rows

-- what was written of the session's flying write row by row is handed out, and is not kept
pub record HasHandedOut {C : Type 0} (old new : View C) (s : ℕ) (rows : List CommitRow) : Type 0 where
  pub j : ℕ
  pub flight : Aloft
  pub flies : slice_get old.core.aloft j ≡ Some flight
  pub own : flight.s ≡ s
  pub rows_are : slice_get old.notes j ≡ Some rows
  pub notes : new.notes ≡ remove old.notes j

-- this write may begin, unless something stands in its way
pub record MayBegin (core : Core) (s i : ℕ) (ops : List RowOp) : Type 0 where
  pub at : IsAt core s i
  pub write : IfWrite (command_at core.work s i) (λ written. written ≡ ops)

-- and it needs so many cells of the pool, which are not too many
pub record MayBeginNow (core : Core) (s i : ℕ) (ops : List RowOp) (needs : ℕ) : Type 0 where
  pub may : MayBegin core s i ops
  pub cells : needs ≡ need ops
  pub goes : core.stopped ≡ false
  pub fits : needs ≤ core.work.cells

-- it has begun at ts, at the clock's reading m
pub record HasBegun (old new : Core) (s i : ℕ) (ops : List RowOp) (ts : ℕ) : Type 0 where
  pub m : ℕ
  pub time : ts ≡ next_timestamp old.c m
  pub core : new ≡ begun old s i ts m ops

-- the least flying write that has a key of these operations
abbrev pub holder_of : Core → List RowOp → Option ℕ
holder_of core ops = least (filter (λ w. share_key ops w.ops) (map flown_by core.aloft))

-- nothing stands in a write's way: it needs no more cells than a write may, no flying write has a key of it, and the cells that it needs
-- are free and not promised
pub record IsUnhindered {C : Type 0} (view : View C) (ops : List RowOp) : Type 0 where
  pub goes : view.core.stopped ≡ false
  pub fits : need ops ≤ view.core.work.cells
  pub apart : holder_of view.core ops ≡ None
  pub room : need ops ≤ unpromised view.pool

-- its keys are free and it is not too large, but it needs more cells than are free and not promised
pub record HasNoRoom {C : Type 0} (view : View C) (ops : List RowOp) (n left : ℕ) : Type 0 where
  pub fits : need ops ≤ view.core.work.cells
  pub apart : holder_of view.core ops ≡ None
  pub needs : n ≡ need ops
  pub left_is : left ≡ unpromised view.pool
  pub short : left < n

-- the first that stands in a write's way: it needs more cells than a write may, it has a key of a flying write, of which this is the
-- least, or it needs more cells than are free and not promised. Want of memory alone has no cause
abbrev pub IsRefused : {C : Type 0} → View C → List RowOp → BeginNo → Type 0
IsRefused view ops no.Stopped = view.core.stopped ≡ true
IsRefused view ops (no.Large n) = (n ≡ need ops) × (view.core.work.cells < n)
IsRefused view ops (no.Wait ts) = (need ops ≤ view.core.work.cells) × (holder_of view.core ops ≡ Some ts)
IsRefused view ops (no.Room n left) = HasNoRoom view ops n left
IsRefused view ops no.Memory = Unit {0}

-- this write needs more cells than a write may
pub record IsLarge (core : Core) (s i needs : ℕ) : Type 0 where
  pub at : IsAt core s i
  pub goes : core.stopped ≡ false
  pub write : IfWrite (command_at core.work s i) (λ ops. (needs ≡ need ops) × (core.work.cells < needs))

-- a write that is too large leaves its line, and every other that does not begin leaves nothing
abbrev pub Leaves : {C : Type 0} → View C → View C → ℕ → ℕ → BeginNo → Type 0
Leaves old new s i no.Stopped = new ≡ old
Leaves old new s i (no.Large n) = new.core ≡ answered old.core s i (event.Large s i n)
Leaves old new s i (no.Wait ts) = new ≡ old
Leaves old new s i (no.Room n left) = new ≡ old
Leaves old new s i no.Memory = new ≡ old
