-- Pasts that no run tells apart.
use Rattle.std.specs.Prelude.{◌≡◌, ◌≤◌, ℕ, List}
use Rattle.kt_history.specs.declared.event.Event.{Event}
use Rattle.kt_history.specs.History.{Past, rows_at}
use Rattle.kt_history.specs.Machine.{Workload, IsRun}
use Rattle.kt_history.specs.Replies.{answer, past_after}

-- the same rows at each time from the same mark on, whatever the order of the changes inside a write
pub record ShowTheSame (p q : Past) : Type 0 where
  pub mark : q.mark ≡ p.mark
  pub rows : (t : ℕ) → p.mark ≤ t → rows_at q t ≡ rows_at p t

-- a run from one of them is a run from the other, with the same replies, and leads to pasts that show the same
abbrev pub no_run_tells_them_apart : Type 0
no_run_tells_them_apart = (work : Workload) (p q : Past) (c : ℕ) (events : List Event) → p.mark ≤ c → ShowTheSame p q → IsRun work p c events
    → IsRun work q c events
    × ((s i : ℕ) → answer work (past_after work q c events) events s i ≡ answer work (past_after work p c events) events s i)
    × ShowTheSame (past_after work p c events) (past_after work q c events)
