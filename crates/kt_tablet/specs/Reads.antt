-- When a scan may be answered, what stands in its way, and what it shows.
use Rattle.std.specs.Prelude.{◌≡◌, ◌<◌, ◌≤◌, ◌-◌, ℕ, zero, suc, ◌==◌, nat_le, Bool, true, false, List, [], ◌∷◌, map, Option, Some, None, IsSome, unwrap_or}
use Rattle.std.specs.List.{list_any, list_all, All}
use Rattle.std.specs.FinMap.Entries.{find}
use Rattle.kt_history.specs.declared.scan.At.{At}
use Rattle.kt_history.specs.declared.scan.At.TheVariants.{Looked, Given}
use Rattle.kt_history.specs.declared.event.Event.TheVariants as event
use Rattle.kt_history.specs.declared.changes.KeyChange.{KeyChange}
use Rattle.kt_history.specs.Rows.{Row, key_cmp}
use Rattle.kt_history.specs.History.{rows_at}
use Rattle.kt_history.specs.Stores.{Store, changes_upto}
use Rattle.kt_views.specs.Told.{TellsUpTo}
use Rattle.kt_history.specs.Machine.{Turn, nth, command_at, IfScan, none_flies, least}
use Rattle.kt_histlaws.specs.Histories.{first_some, AtMostOne}
use Rattle.kt_histlaws.specs.Core.{Core, flown_by, run_past}
use Rattle.kt_histlaws.specs.Events.{answered, answered_rows}
use Rattle.kt_tablet.specs.declared.snap_view.SnapView.{SnapView}
use Rattle.kt_tablet.specs.declared.snap.Snap.{Snap}
use Rattle.kt_tablet.specs.declared.tablet.scan.SnapNo.{SnapNo}
use Rattle.kt_tablet.specs.declared.tablet.scan.SnapNo.TheVariants as no
use Rattle.kt_tablet.specs.declared.snap.Copied.{Copied}
use Rattle.kt_tablet.specs.declared.snap.Copied.TheVariants as copied
use Rattle.kt_tablet.specs.Copies.{mark_of, copied_row}
use Rattle.kt_tablet.specs.Views.{View}

-- a scan of the present has drawn its time, and another has not
abbrev pub HasDrawn : At → Option ℕ → Type 0
HasDrawn Looked look = IsSome look
HasDrawn (Given t) look = look ≡ None

-- command i is the next of session s, a scan that reads then, and no write of the session flies
pub record MaySnapshot (core : Core) (s i : ℕ) (at : At) : Type 0 where
  pub look : Option ℕ
  pub next : nth core.turns s ≡ Some (record { next = i; look = look })
  pub drawn : HasDrawn at look
  pub rests : list_any (λ w. w.s == s) (map flown_by core.aloft) ≡ false
  pub scan : IfScan (command_at core.work s i) (λ w. w ≡ at)

-- the time that a session has drawn
abbrev pub look_of : Option Turn → Option ℕ
look_of None = None
look_of (Some turn) = turn.look

-- the time at which its scan reads
abbrev pub time_in : List Turn → ℕ → At → ℕ
time_in turns s Looked = unwrap_or (look_of (nth turns s)) 0
time_in turns s (Given t) = t

abbrev pub time_of : Core → ℕ → At → ℕ
time_of core s at = time_in core.turns s at

-- it is answered at t, from the mark on and where no write flies that is not later
pub record HasRead (old new : Core) (s i : ℕ) (at : At) (t : ℕ) : Type 0 where
  pub time : t ≡ time_of old s at
  pub since : old.a ≤ t
  pub settled : none_flies t (map flown_by old.aloft) ≡ true
  pub core : new ≡ answered_rows old s i t

-- this is the least write that flies, and it is not later than t
abbrev pub FliesBy : Core → ℕ → ℕ → Type 0
FliesBy core t f = (least (map flown_by core.aloft) ≡ Some f) × (f ≤ t)

-- it may be refused: it reads below the mark
pub record IsAncient (core : Core) (s i : ℕ) (at : At) (t a : ℕ) : Type 0 where
  pub may : MaySnapshot core s i at
  pub goes : core.stopped ≡ false
  pub time : t ≡ time_of core s at
  pub mark : a ≡ core.a
  pub below : t < a

-- or a write flies that is not later than the time that is given
pub record IsBusy (core : Core) (s i t f : ℕ) : Type 0 where
  pub may : MaySnapshot core s i (Given t)
  pub goes : core.stopped ≡ false
  pub since : core.a ≤ t
  pub flies : FliesBy core t f

-- nothing stands in its way
pub record MayReadNow (core : Core) (s i : ℕ) (at : At) (t : ℕ) : Type 0 where
  pub may : MaySnapshot core s i at
  pub goes : core.stopped ≡ false
  pub time : t ≡ time_of core s at
  pub since : core.a ≤ t
  pub settled : none_flies t (map flown_by core.aloft) ≡ true

-- what stands in a scan's way: its time is below the mark, or a write flies that is not later. A scan of the present waits for that
-- one, and a scan of a given time is refused. Want of memory alone has no cause
abbrev pub IsNoRead : Core → ℕ → At → SnapNo → Type 0
IsNoRead core s at no.Stopped = core.stopped ≡ true
IsNoRead core s at (no.Ancient t a) = (t ≡ time_of core s at) × (a ≡ core.a) × (t < a)
IsNoRead core s at (no.Busy t f) = (at ≡ Given t) × (core.a ≤ t) × FliesBy core t f
IsNoRead core s at (no.NotYet f) = (at ≡ Looked) × (core.a ≤ time_of core s at) × FliesBy core (time_of core s at) f
IsNoRead core s at no.Memory = Unit {0}

-- a scan that is refused leaves its line, and one that is not answered leaves nothing
abbrev pub LeavesRead : {C : Type 0} → View C → View C → ℕ → ℕ → SnapNo → Type 0
LeavesRead old new s i no.Stopped = new ≡ old
LeavesRead old new s i (no.Ancient t a) = new.core ≡ answered old.core s i (event.Ancient s i t a)
LeavesRead old new s i (no.Busy t f) = new.core ≡ answered old.core s i (event.Busy s i t f)
LeavesRead old new s i (no.NotYet f) = new ≡ old
LeavesRead old new s i no.Memory = new ≡ old

-- a view of a store up to a time, which tells rows from a mark on
pub record IsViewOf (since t : ℕ) (fill : Row) (store : Store) (view : SnapView) : Type 0 where
  pub since_is : view.since ≡ since
  pub changes : view.changes ≡ changes_upto t store
  pub fill_is : view.fill ≡ fill

-- what is copied of a store: of one in memory such a view, and of a disk rowset what tells its rows up to the time. So many stores from this one on lie in
-- memory
abbrev pub IsCopyOf : {V : Type 0} → (V → List ℕ → ℕ → Option Row) → ℕ → ℕ → Row → ℕ → Store → Copied V → Type 0
IsCopyOf row since t fill zero store (copied.Memory v) = ⊥
IsCopyOf row since t fill zero store (copied.Rowset v) = TellsUpTo row t store v
IsCopyOf row since t fill (suc memory) store (copied.Memory v) = IsViewOf since t fill store v
IsCopyOf row since t fill (suc memory) store (copied.Rowset v) = ⊥

-- one of each store, of which the first so many lie in memory
abbrev pub AreCopies : {V : Type 0} → (V → List ℕ → ℕ → Option Row) → ℕ → ℕ → Row → ℕ → List Store → List (Copied V) → Type 0
AreCopies row since t fill memory [] [] = Unit {0}
AreCopies row since t fill memory [] (v ∷ views) = ⊥
AreCopies row since t fill memory (s ∷ stores) [] = ⊥
AreCopies row since t fill memory (s ∷ stores) (v ∷ views) = IsCopyOf row since t fill memory s v × AreCopies row since t fill (memory - 1) stores views

-- at each time from the mark to that of the scan, the copies together have the run's row of each key, and no two of them have one
pub record ShowsRun {V : Type 0} (row : V → List ℕ → ℕ → Option Row) (core : Core) (snap : Snap V) : Type 0 where
  pub marks : All (λ v. mark_of v ≤ snap.mark) snap.views
  pub rows : (u : ℕ) (key : List ℕ) → snap.mark ≤ u → u ≤ snap.t → first_some (map (copied_row row key u) snap.views) ≡ find key_cmp key (rows_at (run_past core) u)
  pub one : (u : ℕ) (key : List ℕ) → snap.mark ≤ u → u ≤ snap.t → AtMostOne (map (copied_row row key u) snap.views)

-- no change is later than a time
abbrev pub none_later : ℕ → List KeyChange → Bool
none_later t changes = list_all (λ c. nat_le c.ts t) changes

-- a copy of a store in memory holds no change later than a time
abbrev pub HoldsUpTo : {V : Type 0} → ℕ → Copied V → Type 0
HoldsUpTo t (copied.Memory v) = none_later t v.changes ≡ true
HoldsUpTo t (copied.Rowset v) = Unit {0}

-- and it tells rows from a mark on, and not from before it
abbrev pub TellsFrom : {V : Type 0} → ℕ → Copied V → Type 0
TellsFrom mark (copied.Memory v) = v.since ≡ mark
TellsFrom mark (copied.Rowset v) = Unit {0}

-- what is copied of stores in memory holds no change later than the scan's time, and tells rows from the mark on
pub record IsCopied {V : Type 0} (snap : Snap V) : Type 0 where
  pub upto : All (HoldsUpTo snap.t) snap.views
  pub since : All (TellsFrom snap.mark) snap.views
