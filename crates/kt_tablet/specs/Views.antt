-- What a tablet's fields mean, and what it keeps.
use Rattle.std.specs.Prelude.{◌≡◌, ◌<◌, ◌≤◌, ℕ, ◌+◌, ◌-◌, ◌^◌, Bool, true, false, ◌==◌, if◌then◌else◌, List, [], ◌∷◌, map, length, Option, Some, None, drop, vec_len, vec_capacity}
use Rattle.kt_base.specs.declared.cell.Kind.{Kind}
use Rattle.kt_base.specs.Causes.{Grows}
use Rattle.kt_history.specs.declared.command.Command.{Command}
use Rattle.kt_history.specs.Operations.{need}
use Rattle.kt_history.specs.declared.target.Target.{Target}
use Rattle.kt_history.specs.Rows.{Row}
use Rattle.kt_history.specs.History.{Past, IsPastUpTo}
use Rattle.kt_history.specs.Machine.{Workload, readings_of, start, state_after}
use Rattle.kt_diskrowset.specs.Rowset.{HeldFiles}
use Rattle.kt_pool.specs.Contents.{Contents, free, used}
use Rattle.kt_schema.specs.declared.column.Column.{Column}
use Rattle.kt_schema.specs.Columns.{key_columns, other_columns}
use Rattle.kt_mvcc.specs.declared.flier.Flier.{Flier}
use Rattle.kt_records.specs.declared.entry.CommitRow.{CommitRow}
use Rattle.kt_records.specs.Rules.{may_hold, EachAfter, FollowingOp}
use Rattle.kt_histlaws.specs.Histories.{Shows, hists}
use Rattle.kt_history.specs.Stores.{Store}
use Rattle.kt_histlaws.specs.Pending.{Aloft}
use Rattle.kt_histlaws.specs.Fitting.{AreSound}
use Rattle.kt_histlaws.specs.Core.{Core, Stands}
use Rattle.kt_tablet.specs.declared.tablet.FlyingWrite.{FlyingWrite}
use Rattle.kt_history.specs.declared.event.Event.{Event}
use Rattle.kt_tablet.specs.Plans.{PlanKeeps}
use Rattle.kt_tablet.specs.Rows.{AreNoted, OneOfEach}

-- what a clause sees of a tablet: the engine, whose first past is left open; its clock, now and at opening; the stores and the
-- mark that opening found; the names of the stores; what each flying write has written for the log so far; where the REPLICATE of each stands;
-- the pool of the stores; how many MemRowSets are frozen, which stand behind the first store; and the files of each disk rowset
pub record View (C : Type 0) : Type 0 where
  pub core : Core
  pub clock : C
  pub opened : C
  pub opening : List Store
  pub mark : ℕ
  pub names : List Target
  pub notes : List (List CommitRow)
  pub places : List (ℕ × ℕ)
  pub pool : Contents
  pub frozen : ℕ
  pub files : List HeldFiles

abbrev pub empty : Past
empty = record { mark = 0; base = []; writes = [] }

abbrev pub id_and_kind : Column → ℕ × Kind
id_and_kind c = (c.id, c.kind)

-- what is to be run on a table of these columns
abbrev pub work_of : List Column → List (List Command) → ℕ → Row → Workload
work_of columns plan cells fill = record { plan = plan; cells = cells; keys = map id_and_kind (key_columns columns); others = map id_and_kind (other_columns columns); fill = fill }

-- what a flying write has written for the log so far
abbrev pub rows_of : FlyingWrite → List CommitRow
rows_of w = w.rows.items

-- its session, and the place of its REPLICATE among all records, counted from 1
abbrev pub placed_of : FlyingWrite → ℕ × ℕ
placed_of w = (w.who, w.place)

-- the place of the REPLICATE of the flying write of a session
abbrev pub place_at : ℕ → List (ℕ × ℕ) → Option ℕ
place_at s [] = None
place_at s (p ∷ places) = if p.0 == s then Some p.1 else place_at s places

abbrev pub aloft_of : FlyingWrite → Aloft
aloft_of w = record { s = w.who; i = w.index; ts = w.ts; ops = w.ops; applied = w.applied }

-- the write as the clock of writes has it, with the keys that it holds
abbrev pub flier_of : FlyingWrite → Flier
flier_of w = record { who = w.who; ts = w.ts; keys = map (λ op. op.key) w.ops }

-- opening found this past: its stores show it from its mark on
pub record Opens (opening : List Store) (mark last : ℕ) (first : Past) : Type 0 where
  pub mark_is : first.mark ≡ mark
  pub ends : IsPastUpTo last first
  pub shows : Shows first.mark opening first
  pub sound : (q : List ℕ) → AreSound first.mark (hists q opening)

-- it stands for a run from each past that opening found, its lines show what the clock gave, and its plan keeps the rules
pub record IsSound {C : Type 0} (readings : C → Option (List ℕ)) (view : View C) : Type 0 where
  pub stands : (first : Past) → Opens view.opening view.mark view.core.opened first → Stands (record view.core { first = first })
  pub clock : Grows (readings view.opened) (readings view.clock) (readings_of view.core.trail)
  pub plan : PlanKeeps view.core.work

-- the cells that are free and not promised
abbrev pub unpromised : Contents → ℕ
unpromised pool = free pool - pool.reserved

-- the cells that the rows of flying writes still to be applied need
abbrev pub owed : List Aloft → ℕ
owed [] = 0
owed (w ∷ aloft) = need (drop w.applied w.ops) + owed aloft

-- no store has a row
abbrev pub AreVacant : List Store → Type 0
AreVacant [] = Unit {0}
AreVacant (store ∷ stores) = (store ≡ []) × AreVacant stores

-- The pool is exact: what it has promised is what flying writes still need, and where no store has a row no cell is used.
pub record IsExact (aloft : List Aloft) (stores : List Store) (pool : Contents) : Type 0 where
  pub promised : pool.reserved ≡ owed aloft
  pub vacant : AreVacant stores → used pool ≡ 0

-- a flying write's operations are as they are recorded, its session goes on, and what becomes of them has room
pub record IsProvided (fill : Row) (w : FlyingWrite) : Type 0 where
  pub count : may_hold (length w.ops) ≡ true
  pub each : EachAfter FollowingOp [] w.ops
  pub few : w.index + 1 < 2 ^ 32
  pub noted : (vec_len w.outcomes ≡ w.applied) × (vec_len w.rows ≡ w.applied)
  pub room : (length w.ops ≤ vec_capacity w.outcomes) × (length w.ops ≤ vec_capacity w.rows)

abbrev pub AreProvided : Row → List FlyingWrite → Type 0
AreProvided fill [] = Unit {0}
AreProvided fill (w ∷ flights) = IsProvided fill w × AreProvided fill flights

-- what has been promised is there: a flying write's keys are held, its rows have their cells, and its end has its line. So has the
-- stop. No session has two that fly
pub record IsReady (fill : Row) (stopped : Bool) (flights : List FlyingWrite) (flying : List Flier) (lines room : ℕ) (pool : Contents) : Type 0 where
  pub held : flying ≡ map flier_of flights
  pub cells : pool.reserved ≡ owed (map aloft_of flights)
  pub provided : AreProvided fill flights
  pub apart : OneOfEach flights
  pub end : stopped ≡ false → lines + length flights + 1 ≤ room

-- what flying writes have noted is what a run from each past that opening found says
abbrev pub AreTold : Workload → List Store → ℕ → ℕ → List Event → List FlyingWrite → Type 0
AreTold work opening mark opened trail flights = (first : Past) → Opens opening mark opened first → AreNoted work.fill (state_after work (start work first opened) trail).past flights
