-- The table of a run, as its lines are taken.
use Rattle.std.specs.Prelude.{ℕ, ◌<◌, List}
use Rattle.kt_history.specs.declared.event.Event.{Event}
use Rattle.kt_history.specs.declared.event.Event.TheVariants.{Begin}
use Rattle.kt_history.specs.History.{Past, rows_at}
use Rattle.kt_history.specs.Machine.{Workload, State, Allowed, start, after, state_after}
use Rattle.kt_judge.specs.Tables.{Entries, IsTableUpTo, IsTableOf}

-- the state at the end of a history
abbrev pub end_of : Workload → Past → ℕ → List Event → State
end_of work past c events = state_after work (start work past c) events

-- a write that begins has a timestamp that no row is later than
abbrev pub BeginsLater : Event → Entries → Type 0
BeginsLater (Begin s i ts m) entries = (0 < ts) × IsTableUpTo ts entries
BeginsLater _ entries = Unit {0}

-- the table of a state becomes that of the state after a line which may come next
abbrev pub Grows : Workload → Event → Entries → Entries → Type 0
Grows work e old new = (st : State) → Allowed work st e → IsTableOf st.c (rows_at st.past) old → IsTableOf (after work st e).c (rows_at (after work st e).past) new
