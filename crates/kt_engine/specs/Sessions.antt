-- The sessions that run.
use Rattle.std.specs.Prelude.{◌==◌, ℕ, Bool, List, length}
use Rattle.std.specs.List.{list_any, range_with_len}
use Rattle.kt_history.specs.declared.command.Command.{Command}

-- the numbers of the sessions of a plan: from 1 on, as many as there are
abbrev pub numbers_of : List (List Command) → List ℕ
numbers_of plan = range_with_len 1 (length plan)

-- whether this session runs
abbrev pub runs : ℕ → List ℕ → Bool
runs n running = list_any (λ k. k == n) running
