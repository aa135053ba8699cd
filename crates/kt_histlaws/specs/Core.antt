-- The engine as a value, and when it stands for a run.
use Rattle.std.specs.Prelude.{◌≡◌, ◌≤◌, ℕ, Bool, true, List, map, Option}
use Rattle.kt_history.specs.declared.event.Event.{Event}
use Rattle.kt_history.specs.Rows.{Row}
use Rattle.kt_history.specs.History.{Past, IsPastUpTo}
use Rattle.kt_history.specs.Machine.{Workload, HasDifferentKeys, State, Flying, Turn, start, state_after, IsRun}
use Rattle.kt_histlaws.specs.Histories.{hists, first_some}
use Rattle.kt_history.specs.Stores.{Store, row_of}
use Rattle.kt_histlaws.specs.Pending.{Aloft, Same, is_pending}
use Rattle.kt_histlaws.specs.Flights.{AllFly, AreDisjoint, AllUnder}
use Rattle.kt_histlaws.specs.Fitting.{AreSound}

-- an engine: what it is to run, what opening found, its lines, and where it stands
pub record Core : Type 0 where
  pub work : Workload
  pub first : Past
  pub opened : ℕ
  pub trail : List Event
  pub a : ℕ
  pub c : ℕ
  pub aloft : List Aloft
  pub turns : List Turn
  pub stopped : Bool
  pub stores : List Store

-- a flying write as the run has it
abbrev pub flown_by : Aloft → Flying
flown_by w = record { s = w.s; i = w.i; ts = w.ts; ops = w.ops }

-- the state of the machine that the engine shows, for this past
abbrev pub now : Core → Past → State
now core past = record { past = past; a = core.a; c = core.c; flying = map flown_by core.aloft; turns = core.turns; stopped = core.stopped }

-- what a run keeps of its state
pub record IsFlown (fill : Row) (st : State) : Type 0 where
  pub ends : IsPastUpTo st.c st.past
  pub fly : AllFly fill st.past st.a st.c st.flying
  pub disjoint : AreDisjoint st.flying
  pub marked : st.a ≤ st.c

-- the run stands: the lines are one, and the engine is in its state
pub record RunStands (core : Core) (past : Past) : Type 0 where
  pub is_run : IsRun core.work core.first core.opened core.trail
  pub state : state_after core.work (start core.work core.first core.opened) core.trail ≡ now core past

-- the stores agree: they show what is done of the past, and keep their changes in order
pub record StoresAgree (core : Core) (past : Past) : Type 0 where
  pub same : Same core.stores core.aloft past core.a
  pub sound : (q : List ℕ) → AreSound core.a (hists q core.stores)

-- changes lie in order: every change of a key that a flying write has still to apply lies below that write
abbrev pub ChangesLieInOrder : Core → Type 0
ChangesLieInOrder core = (q : List ℕ) (ts : ℕ) → is_pending core.aloft q ts ≡ true → AllUnder ts (hists q core.stores)

-- the engine stands for a run of a plan whose writes are each on different keys. That its changes lie in order follows
pub record Stands (core : Core) : Type 0 where
  pub past : Past
  pub run : RunStands core past
  pub stores : StoresAgree core past
  pub flown : IsFlown core.work.fill (now core past)
  pub planned : HasDifferentKeys core.work

-- the row of a key that the stores have now
abbrev pub live : List Store → List ℕ → ℕ → Option Row
live stores q ts = first_some (map (row_of ts) (hists q stores))

-- the past of the run, read off the lines
abbrev pub run_past : Core → Past
run_past core = (state_after core.work (start core.work core.first core.opened) core.trail).past
