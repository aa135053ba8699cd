-- The commands of a script as they are read.
use Rattle.std.specs.Prelude.{◌≡◌, ◌≤◌, ℕ, List, [], ◌∷◌, ◌++◌, Option, Some, None}
use Rattle.kt_history.specs.declared.command.Command.{Command}
use Rattle.kt_script.specs.Scripts.{most_commands, commands_in}

-- the commands of each session: those that have ended, and the last one, if one has begun
abbrev pub plan_of : List (List Command) → Option (List Command) → List (List Command)
plan_of ended None = []
plan_of ended (Some last) = ended ++ last ∷ []

-- A session ends where the next one begins, the commands of those that have ended are counted, and all are not too many.
pub record Kept (ended : List (List Command)) (last : Option (List Command)) (count : ℕ) : Type 0 where
  pub first : last ≡ None → ended ≡ []
  pub counted : count ≡ commands_in ended
  pub few : commands_in (plan_of ended last) ≤ most_commands
