-- Whether lines have answered a command.
use Rattle.std.specs.Prelude.{◌≡◌, ℕ, List, Some, None}
use Rattle.kt_history.specs.declared.event.Event.{Event}
use Rattle.kt_history.specs.declared.reply.Reply.{Reply}
use Rattle.kt_history.specs.History.{Past}
use Rattle.kt_engine.specs.Visits.{Root}
use Rattle.kt_serve.specs.Sessions.{Found, told_by}

-- they have not answered command i of the session
abbrev pub IsOpen : {L D C : Type 0} → Root L D C → ℕ → ℕ → List Event → Type 0
IsOpen root s i lines = (first : Past) → Found root first → told_by root first lines s i ≡ None

-- they have answered it so
abbrev pub IsAnswered : {L D C : Type 0} → Root L D C → ℕ → ℕ → Reply → List Event → Type 0
IsAnswered root s i reply lines = (first : Past) → Found root first → told_by root first lines s i ≡ Some reply
