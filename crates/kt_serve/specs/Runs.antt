-- The sessions of a plan, run at once: what each has ended with, and what the lines of the run tell.
use Rattle.std.specs.Prelude.{◌≡◌, ◌≢◌, ◌⊎◌, ◌≤◌, ◌<◌, ◌^◌, ℕ, true, List, [], length, slice_get, Option, Some, None}
use Rattle.kt_history.specs.declared.command.Command.{Command}
use Rattle.kt_history.specs.declared.event.Event.{Event}
use Rattle.kt_history.specs.declared.reply.Reply.{Reply}
use Rattle.kt_history.specs.Machine.{nth}
use Rattle.kt_seatlock.specs.Passes.{number, seen, part, IsBack}
use Rattle.kt_seatlock.specs.declared.shared.Shared.{Ghosts}
use Rattle.kt_engine.specs.Engines.{EngineView}
use Rattle.kt_engine.specs.Jobs.{upkeep_at}
use Rattle.kt_engine.specs.Visits.{Root, PartView}
use Rattle.kt_serve.specs.declared.places.Place.{Place}
use Rattle.kt_serve.specs.declared.log.Halt.TheVariants as halt
use Rattle.kt_serve.specs.declared.session.SessionEnd.{SessionEnd}
use Rattle.kt_serve.specs.Maintained.{HasNoJob, HasRounds, StoreRests, chores_in}
use Rattle.kt_serve.specs.Sessions.{TellsOwn, SameRoot, OnRoot, HasNoLog, HasLeft, CanRun, has_stop}
use Rattle.kt_serve.specs.Scans.{TellsBut}

-- A session of these commands has ended so: the lines tell it its replies and no other, but maybe one to the command that met want
-- of memory. It has a reply to each command unless something halted it; where a failed device did, the lines have a `stop` line. For
-- each reply the run came to the command's points.
pub record HasEnded {L D C : Type 0} (Came : ℕ → ℕ → Reply → Type 0) (root : Root L D C) (s : ℕ) (commands : List Command) (lines : List Event) (end : SessionEnd) : Type 0 where
  pub tells : end.halt ≢ Some halt.Memory → TellsOwn root s end.replies lines
  pub lost : end.halt ≡ Some halt.Memory → TellsBut root s end.replies lines
  pub all : end.halt ≡ None → length end.replies ≡ length commands
  pub stopped : end.halt ≡ Some halt.Stopped → has_stop lines ≡ true
  pub points : (k : ℕ) (reply : Reply) → nth end.replies k ≡ Some reply → Came s k reply

-- and its pass does not have the log, tells what it told of the root, and has begun a round at least for each command of a whole session that asks for maintenance
pub record HasRunTo {L D C : Type 0} (Came : ℕ → ℕ → Reply → Type 0) (old new : Option (PartView L D C)) (s : ℕ) (commands : List Command) (lines : List Event) (end : SessionEnd) : Type 0 where
  pub home : HasNoLog new
  pub root : SameRoot old new
  pub rounds : end.halt ≡ None → HasRounds (chores_in commands) new
  pub ended : OnRoot old (λ root. HasEnded Came root s commands lines end)

-- the session or the worker of this place has run to its end and does not run any more, and its pass is outside again, with neither device, and with no job
-- unless it had one or the tablet has stopped
pub record PlaceHasRun {L D C : Type 0} {g : Ghosts (EngineView L D C) Event (PartView L D C)} (Came : ℕ → ℕ → Reply → Type 0) (plan : List (List Command)) (at : ℕ) (old new : Place (EngineView L D C) Event (PartView L D C) g) : Type 0 where
  pub back : IsBack old.pass new.pass
  pub left : HasLeft (part new.pass)
  pub home : HasNoLog (part new.pass)
  pub store : StoreRests (part new.pass)
  pub none : HasNoJob (part old.pass) → HasNoJob (part new.pass) ⊎ (has_stop (seen new.pass) ≡ true)
  pub run : (commands : List Command) → slice_get plan at ≡ Some commands → HasRunTo Came (part old.pass) (part new.pass) (number old.pass) commands (seen new.pass) new.end

-- each command of each session can be run
pub record PlanRuns (plan : List (List Command)) : Type 0 where
  pub runs : (j : ℕ) (commands : List Command) → slice_get plan j ≡ Some commands → (k : ℕ) (command : Command) → nth commands k ≡ Some command → CanRun k command
  pub few : (j : ℕ) (commands : List Command) → slice_get plan j ≡ Some commands → length commands < 2 ^ 31

-- each session of the plan has ended so, in the order of their numbers, and the lines tell no other session a reply
pub record AllEnded {L D C : Type 0} (Came : ℕ → ℕ → Reply → Type 0) (root : Root L D C) (plan : List (List Command)) (lines : List Event) (ends : List SessionEnd) : Type 0 where
  pub count : length ends ≡ length plan
  pub each : (s : ℕ) (commands : List Command) → nth plan s ≡ Some commands → (end : SessionEnd) × (nth ends s ≡ Some end) × HasEnded Came root s commands lines end
  pub others : (s : ℕ) → nth plan s ≡ None → TellsOwn root s [] lines

-- each session that ended whole has begun a round at least for each of its commands that asks for maintenance
abbrev pub HaveBegunRounds : {L D C : Type 0} → List (List Command) → List SessionEnd → EngineView L D C → Type 0
HaveBegunRounds plan ends view = (s : ℕ) (commands : List Command) (end : SessionEnd) → nth plan s ≡ Some commands → nth ends s ≡ Some end → end.halt ≡ None → chores_in commands ≤ (upkeep_at s view.upkeep.passes).rounds

-- the reply to command k that a session ended with, if there is such a session
abbrev pub reply_of_end : Option SessionEnd → ℕ → Option Reply
reply_of_end None k = None
reply_of_end (Some end) k = nth end.replies k
