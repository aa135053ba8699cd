-- A run of all sessions that has ended: its lines, and the replies that these tell.
use Rattle.std.specs.Prelude.{◌≡◌, ◌≢◌, ℕ, Bool, false, true, List, [], ◌∷◌, ◌++◌, length, slice_get, Option, Some, None, if◌then◌else◌}
use Rattle.kt_history.specs.declared.command.Command.{Command}
use Rattle.kt_history.specs.declared.event.Event.{Event}
use Rattle.kt_history.specs.declared.event.Event.TheVariants.{Stop}
use Rattle.kt_history.specs.declared.reply.Reply.{Reply}
use Rattle.kt_history.specs.History.{Past}
use Rattle.kt_history.specs.Machine.{Workload, nth, start}
use Rattle.kt_content.specs.Rules.{Rules}
use Rattle.kt_engine.specs.Logged.{PlanPasses}
use Rattle.kt_history.specs.Replies.{told}
use Rattle.kt_schema.specs.declared.column.Column.{Column}
use Rattle.kt_script.specs.Scripts.{workload}
use Rattle.kt_script.specs.declared.output.LastLine.{LastLine}
use Rattle.kt_script.specs.declared.output.LastLine.TheVariants.{Numbers, Stopped}
use Rattle.kt_histlaws.specs.Core.{Core}
use Rattle.kt_engine.specs.Engines.{EngineView, IsFound, IsContent, core_from}
use Rattle.kt_serve.specs.declared.log.Halt.TheVariants as halt
use Rattle.kt_serve.specs.declared.session.SessionEnd.{SessionEnd}
use Rattle.kt_app.specs.Images.{Image}
use Rattle.kt_app.specs.Crash.{KeptBy, RanBy}

-- the reply that these lines tell for a command, behind what opening found
abbrev pub told_in : Core → List Event → ℕ → ℕ → Option Reply
told_in core lines s i = told core.work (start core.work core.first core.opened) lines s i

-- An engine in which nothing has happened yet, its devices at home.
pub record IsFresh {L D C : Type 0} (view : EngineView L D C) : Type 0 where
  pub lines : view.tablet.core.trail ≡ []
  pub calm : view.tablet.core.aloft ≡ []
  pub goes : view.tablet.core.stopped ≡ false
  pub home : (view.log.holder ≡ None) × (view.store.holder ≡ None)
  pub clock : view.tablet.clock ≡ view.tablet.opened
  pub unplanned : view.tablet.core.work.plan ≡ []

-- Rules of the table that take each write of a workload, and by which an engine's devices held this past, with a superblock of these columns.
pub record HeldBy {L D C : Type 0} (view : EngineView L D C) (columns : List Column) (work : Workload) (past : Past) (rules : Rules) : Type 0 where
  pub plan : PlanPasses rules work
  pub table : view.store.meta.schema ≡ columns
  pub content : IsContent rules view past

-- From each past that an engine found these lines are a run of a plan, and by each of the rules by which its devices held that past each image after it holds
-- the first of its writes.
abbrev pub KeptOn : {L D C : Type 0} → (List ℕ → Type 0) → EngineView L D C → List Column → List (List Command) → (Image → Type 0) → List Event → Type 0
KeptOn gave view columns plan after events =
    (first : Past) → IsFound view first → KeptBy gave (HeldBy view columns (workload view.tablet.core.work.cells (record { columns = columns; plan = plan })) first) columns after
    (workload view.tablet.core.work.cells (record { columns = columns; plan = plan })) first view.tablet.core.opened events

-- The text is that of this run.
abbrev pub RanOn : {L D C : Type 0} → (List ℕ → Type 0) → EngineView L D C → List Column → List (List Command) → (Image → Type 0) → List Event → Option ℕ → Bool → ℕ → List ℕ → Type 0
RanOn gave view columns plan after events load stopped rowsets text =
    (first : Past) → IsFound view first → RanBy gave (HeldBy view columns (workload view.tablet.core.work.cells (record { columns = columns; plan = plan })) first) columns after
    (workload view.tablet.core.work.cells (record { columns = columns; plan = plan })) first view.tablet.core.opened events load stopped rowsets text

abbrev pub reply_in : Option (List Reply) → ℕ → Option Reply
reply_in None i = None
reply_in (Some replies) i = nth replies i

-- the reply to command i of session s, among the replies that each session has
abbrev pub given : List (List Reply) → ℕ → ℕ → Option Reply
given replies s i = reply_in (nth replies s) i

-- the lines tell these replies and no other
abbrev pub Tells : {L D C : Type 0} → EngineView L D C → List (List Reply) → Type 0
Tells view replies = (first : Past) → IsFound view first → (j k : ℕ) → told_in (core_from view first) view.tablet.core.trail j k ≡ given replies j k

-- want of memory has not halted the session
abbrev pub IsWhole : SessionEnd → Type 0
IsWhole end = end.halt ≢ Some halt.Memory

-- the last line of a run, by whether it was stopped, its mark, its last timestamp, and the disk rowsets of its superblock
abbrev pub end_of_run : Bool → ℕ → ℕ → ℕ → LastLine
end_of_run stopped a c rowsets = if stopped then Stopped else Numbers a c rowsets

-- The run has ended, and these are its replies: a fault has stopped it, or each command was answered, nothing waits for the log, and the superblock that
-- is published has the run's mark and last timestamp.
pub record HasPlayed {L D C : Type 0} (view : EngineView L D C) (plan : List (List Command)) (stopped : Bool) (replies : List (List Reply)) : Type 0 where
  pub ended : view.tablet.core.stopped ≡ stopped
  pub tells : Tells view replies
  pub count : length replies ≡ length plan
  pub last : stopped ≡ true → (before : List Event) × (view.tablet.core.trail ≡ before ++ Stop ∷ [])
  pub all : stopped ≡ false → (s : ℕ) (commands : List Command) → slice_get plan s ≡ Some commands → (given : List Reply) × (slice_get replies s ≡ Some given) × (length given ≡ length commands)
  pub empty : stopped ≡ false → view.log.queued ≡ []
  pub published : stopped ≡ false → (view.store.meta.a ≡ view.tablet.core.a) × (view.store.meta.c ≡ view.tablet.core.c)
