-- The first reply that is not a run's.
use Rattle.std.specs.Prelude.{ℕ, List, [], Option, Some, None}
use Rattle.std.specs.List.{slice_get}
use Rattle.kt_history.specs.declared.event.Event.{Event}
use Rattle.kt_history.specs.History.{Past}
use Rattle.kt_history.specs.Machine.{Workload}
use Rattle.kt_script.specs.declared.reread.Output.{Output}
use Rattle.kt_judge.specs.declared.wrong.Place.{Place}
use Rattle.kt_judge.specs.Turns.{Stand}
use Rattle.kt_judge.specs.Verdicts.{Stands, IsFirstWrong}

abbrev pub lines_of : Option Stand → List Event
lines_of None = []
lines_of (Some stand) = stand.lines

-- the lines that answered the commands of a session, counted from 0
abbrev pub lines_at : List Stand → ℕ → List Event
lines_at turns at = lines_of (slice_get turns at)

-- every reply stands, or this is the first place that does not
abbrev pub IsWrong : Workload → Past → ℕ → Output → Option Place → Type 0
IsWrong work past c out None = (s i : ℕ) → Stands work past c out s i
IsWrong work past c out (Some place) = IsFirstWrong work past c out place.session place.index
