-- How a run ends: nothing waits for the log and the superblock is published, a device has failed, or memory is wanting.
use Rattle.std.specs.Prelude.{◌≡◌, ◌≢◌, ◌≤◌, ◌⊎◌, ℕ, IsTrue, true, false, Option, Some, None, List, [], ◌∷◌, ◌++◌}
use Rattle.kt_history.specs.declared.event.Event.{Event}
use Rattle.kt_history.specs.declared.event.Event.TheVariants.{Stop}
use Rattle.kt_histlaws.specs.Events.{halted}
use Rattle.kt_seatlock.specs.Passes.{number, seen, part, joined, given, filled}
use Rattle.kt_seatlock.specs.Rule.{AreKept, HasJustTheirs}
use Rattle.kt_seatlock.specs.Trails.{Each, own, Follows}
use Rattle.kt_seatlock.specs.Views.{told}
use Rattle.kt_seatlock.specs.declared.pass.Pass.{Pass}
use Rattle.kt_seatlock.specs.declared.shared.Shared.{Ghosts}
use Rattle.kt_engine.specs.Engines.{EngineView}
use Rattle.kt_engine.specs.Visits.{PartView, part_in, session_of}
use Rattle.kt_serve.specs.declared.close.End.{End}
use Rattle.kt_serve.specs.declared.close.End.TheVariants as end
use Rattle.kt_serve.specs.Sessions.{has_stop}

-- nothing has stopped it, and no record is queued or out
pub record IsDone {L D C : Type 0} (view : EngineView L D C) : Type 0 where
  pub goes : view.tablet.core.stopped ≡ false
  pub none : has_stop view.tablet.core.trail ≡ false
  pub queued : view.log.queued ≡ []
  pub out : view.log.out ≡ []

-- and the superblock that it publishes has its mark and its last timestamp. It names no record that is not durable
pub record IsClosed {L D C : Type 0} (view : EngineView L D C) : Type 0 where
  pub done : IsDone view
  pub whole : IsTrue view.store.whole
  pub mark : view.store.meta.a ≡ view.tablet.core.a
  pub last : view.store.meta.c ≡ view.tablet.core.c
  pub need : view.store.meta.need ≡ view.log.known.count

-- a failed device has stopped it, and its `stop` line is the last
pub record IsAtStop {L D C : Type 0} (view : EngineView L D C) : Type 0 where
  pub stopped : view.tablet.core.stopped ≡ true
  pub last : (before : List Event) × (view.tablet.core.trail ≡ before ++ Stop ∷ [])

-- what is left once the records are appended
abbrev pub AppendsAs : {L D C : Type 0} → EngineView L D C → End → Type 0
AppendsAs view end.Done = IsDone view
AppendsAs view end.Stopped = IsAtStop view
AppendsAs view end.Memory = (view.tablet.core.stopped ≡ false) × (has_stop view.tablet.core.trail ≡ false)

-- and once the superblock is published
abbrev pub EndsAs : {L D C : Type 0} → EngineView L D C → End → Type 0
EndsAs view end.Done = IsClosed view
EndsAs view end.Stopped = IsAtStop view
EndsAs view end.Memory = (view.tablet.core.stopped ≡ false) × (has_stop view.tablet.core.trail ≡ false)

-- its tablet is as it was, or has come to its `stop` line since
abbrev pub MayHalt : {L D C : Type 0} → EngineView L D C → EngineView L D C → Type 0
MayHalt old new = (new.tablet ≡ old.tablet) ⊎ (new.tablet ≡ record old.tablet { core = halted old.tablet.core })

-- The engine that all passes of a run tell, once each was joined into this one: the lines that each has seen and no others of theirs, the part of each, and of a
-- number that was not given none of the lines, and the part that it had as the lock was filled.
pub record IsTold {L D C : Type 0} {g : Ghosts (EngineView L D C) Event (PartView L D C)} (pass : Pass (EngineView L D C) Event (PartView L D C) g) (view : EngineView L D C) : Type 0 where
  pub saw : Follows session_of (number pass) (seen pass) view.tablet.core.trail
  pub its : part pass ≡ Some (part_in view (number pass))
  pub kept : AreKept (λ v. v.tablet.core.trail) part_in session_of view (joined pass)
  pub its_lines : own session_of (number pass) view.tablet.core.trail ≡ own session_of (number pass) (seen pass)
  pub kept_lines : HasJustTheirs session_of view.tablet.core.trail (joined pass)
  pub new_lines : (k : ℕ) → given pass ≤ k → Each (λ line. session_of line ≢ Some k) view.tablet.core.trail
  pub new_parts : (k : ℕ) → given pass ≤ k → Some (part_in view k) ≡ told part_in (filled pass) k

-- no pass of the run has a device
abbrev pub AreHome : {L D C : Type 0} {g : Ghosts (EngineView L D C) Event (PartView L D C)} → Pass (EngineView L D C) Event (PartView L D C) g → Type 0
AreHome {L} {D} {C} pass = (view : EngineView L D C) → IsTold pass view → (view.log.holder ≡ None) × (view.store.holder ≡ None)
