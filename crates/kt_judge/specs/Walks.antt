-- A history that is walked from an opening: it is a run, or the first line that is not allowed is told.
use Rattle.std.specs.Prelude.{◌≡◌, ℕ, List, [], map, None}
use Rattle.kt_history.specs.declared.command.Command.{Command}
use Rattle.kt_history.specs.declared.event.Event.{Event}
use Rattle.kt_history.specs.History.{Past}
use Rattle.kt_history.specs.Machine.{Workload}
use Rattle.kt_judge.specs.declared.walk.Walk.{Walk}
use Rattle.kt_judge.specs.declared.walk.Walk.TheVariants as walk
use Rattle.kt_judge.specs.Turns.{Stand}
use Rattle.kt_judge.specs.Faults.{IsFirstFault}
use Rattle.kt_judge.specs.Machine.{Follows}

-- no command of a session is answered yet
abbrev pub AreFirst : List Stand → List (List Command) → Type 0
AreFirst turns plan = turns ≡ map (λ commands. record { lines = []; look = None }) plan

abbrev pub IsWalk : Workload → Past → ℕ → List Event → Walk → Type 0
IsWalk work past c events (walk.Run m) = Follows work past c events m
IsWalk work past c events (walk.Fault n) = IsFirstFault work past c events n
