-- The machine that walks a history: what its fields stand for.
use Rattle.std.specs.Prelude.{◌≡◌, ℕ, Bool, true, false, List, [], map, Option, Some, None, if◌then◌else◌}
use Rattle.std.specs.List.{find, AllByRecursion}
use Rattle.std.specs.Option.{option_or}
use Rattle.kt_history.specs.declared.command.Command.{Command}
use Rattle.kt_history.specs.declared.command.Command.TheVariants as command
use Rattle.kt_history.specs.declared.operation.RowOp.{RowOp}
use Rattle.kt_history.specs.declared.event.Event.{Event}
use Rattle.kt_history.specs.declared.scan.At.{At}
use Rattle.kt_history.specs.History.{Past}
use Rattle.kt_history.specs.Machine.{Workload, State, Flying, Allowed, MayRead, nth, command_at, ops_of, start, after, state_after, IsRun}
use Rattle.kt_history.specs.Replies.{answers, past_after}
use Rattle.kt_judge.specs.Decided.{Decided}
use Rattle.kt_judge.specs.declared.machine.Flight.{Flight}
use Rattle.kt_judge.specs.Turns.{Stand, turn_of}
use Rattle.kt_judge.specs.declared.machine.Machine.{Machine}

-- a flying write has the operations of its command
abbrev pub flown : Workload → Flight → Flying
flown work f = record { s = f.s; i = f.i; ts = f.ts; ops = ops_of (command_at work f.s f.i) }

-- the state that a machine is in, over a past
abbrev pub state_of : Workload → Past → Machine → State
state_of work past m = record {
  past = past;
  a = m.a;
  c = m.c;
  flying = map (flown work) m.flying.items;
  turns = map turn_of m.turns.items;
  stopped = m.stopped;
}

-- a test says whether a line may come next, whatever the past
abbrev pub TellsAllowed : Workload → Machine → Event → Bool → Type 0
TellsAllowed work m e b = (past : Past) → Decided b (Allowed work (state_of work past m) e)

-- a test says whether a scan whose time is this may be answered
abbrev pub TellsRead : Workload → Machine → ℕ → ℕ → ℕ → Bool → Type 0
TellsRead work m s i t b = (past : Past) → Decided b (MayRead work (state_of work past m) s i t)

abbrev pub line_in : Option Stand → ℕ → Option Event
line_in None i = None
line_in (Some stand) i = nth stand.lines i

-- the line that answered command i of session s
abbrev pub line_of : List Stand → ℕ → ℕ → Option Event
line_of turns s i = line_in (nth turns s) i

-- the operations of a command that is a write, the time of one that is a scan, and the target of one that is a mark
abbrev pub write_in : Option Command → Option (List RowOp)
write_in (Some (command.Write w)) = Some w.ops
write_in _ = None

-- none where there is no write
abbrev pub ops_in : Option (List RowOp) → List RowOp
ops_in None = []
ops_in (Some ops) = ops

abbrev pub at_in : Option Command → Option At
at_in (Some (command.Scan scan)) = Some scan.at
at_in _ = None

abbrev pub mark_in : Option Command → Option ℕ
mark_in (Some (command.Mark t)) = Some t
mark_in _ = None

-- the next command of the session of each flying write is that write
abbrev pub Sits : State → Type 0
Sits st = AllByRecursion (λ (w : Flying). nth st.turns w.s ≡ Some (record { next = w.i; look = None })) st.flying

-- a line was taken that might come next: the machine is in the state after it, and has its line
abbrev pub Takes : Workload → Machine → Event → Machine → Type 0
Takes work old e new = (past : Past) → Sits (state_of work past old) → Allowed work (state_of work past old) e
    → (state_of work (after work (state_of work past old) e).past new ≡ after work (state_of work past old) e)
    × ((s i : ℕ) → line_of new.turns.items s i ≡ option_or (line_of old.turns.items s i) (if answers s i e then Some e else None))

-- The lines are a run from a past and a last timestamp, the machine is in its state, and it has the line that answered
-- each command.
pub record Follows (work : Workload) (past : Past) (c : ℕ) (events : List Event) (m : Machine) : Type 0 where
  pub run : IsRun work past c events
  pub state : state_of work (past_after work past c events) m ≡ state_after work (start work past c) events
  pub lines : (s i : ℕ) → line_of m.turns.items s i ≡ find (answers s i) events

-- the lines are followed, or are no run
abbrev pub IsFollowed : Workload → Past → ℕ → List Event → Machine → Bool → Type 0
IsFollowed work past c events m true = Follows work past c events m
IsFollowed work past c events m false = IsRun work past c events → ⊥
