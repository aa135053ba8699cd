-- Where a session stands.
use Rattle.std.specs.Prelude.{ℕ, ◌+◌, List, [], ◌∷◌, ◌++◌, length, Option, None}
use Rattle.kt_history.specs.declared.event.Event.{Event}
use Rattle.kt_history.specs.Machine as model

-- the lines that answered the first commands of a session, and the timestamp that a scan of the present has drawn
pub record Stand : Type 0 where
  pub lines : List Event
  pub look : Option ℕ

-- the next command is the one after those that are answered
abbrev pub turn_of : Stand → model.Turn
turn_of stand = record { next = length stand.lines + 1; look = stand.look }

-- one line more
abbrev pub with_line : Stand → Event → Stand
with_line stand line = record { lines = stand.lines ++ line ∷ []; look = None }
