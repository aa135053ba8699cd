-- Where a history first is no run.
use Rattle.std.specs.Prelude.{◌≤◌, ◌-◌, ℕ, List, length, take, Option, Some, None}
use Rattle.kt_history.specs.declared.event.Event.{Event}
use Rattle.kt_history.specs.History.{Past}
use Rattle.kt_history.specs.Machine.{Workload, IsRun}

-- the lines before the n-th are a run, and with it they are none. Lines count from 1
pub record IsFirstFault (work : Workload) (past : Past) (c : ℕ) (events : List Event) (n : ℕ) : Type 0 where
  pub some : 1 ≤ n
  pub within : n ≤ length events
  pub before : IsRun work past c (take (n - 1) events)
  pub fault : IsRun work past c (take n events) → ⊥

-- the history is a run, or this is its first line that is not allowed
abbrev pub IsFaultOf : Workload → Past → ℕ → List Event → Option ℕ → Type 0
IsFaultOf work past c events None = IsRun work past c events
IsFaultOf work past c events (Some n) = IsFirstFault work past c events n
