-- What a pass knows of its session, and what its visits add to what it has seen.
use Rattle.std.specs.Prelude.{◌≡◌, ◌<◌, ◌+◌, ◌^◌, ◌==◌, ℕ, Bool, true, false, List, [], ◌∷◌, length, Option, Some, None, Result, Ok, Err, if◌then◌else◌}
use Rattle.kt_journal.specs.Open.{JournalView}
use Rattle.kt_records.specs.declared.entry.Entry.{Entry}
use Rattle.kt_records.specs.Rules.{may_hold, EachAfter, FollowingOp}
use Rattle.kt_history.specs.declared.command.Command.{Command}
use Rattle.kt_history.specs.declared.event.Event.{Event}
use Rattle.kt_history.specs.declared.event.Event.TheVariants as event
use Rattle.kt_history.specs.declared.operation.RowOp.{RowOp}
use Rattle.kt_history.specs.declared.operation.Write.{Write}
use Rattle.kt_history.specs.declared.reply.Reply.{Reply}
use Rattle.kt_history.specs.declared.reply.Reply.TheVariants as reply
use Rattle.kt_history.specs.History.{Past}
use Rattle.kt_history.specs.declared.command.Command.TheVariants as command
use Rattle.kt_history.specs.Machine.{start, command_at, nth}
use Rattle.kt_history.specs.Replies.{told}
use Rattle.std.specs.List.{filter}
use Rattle.kt_histlaws.specs.Histories.{or_else}
use Rattle.kt_histlaws.specs.Pending.{Aloft}
use Rattle.kt_serve.specs.declared.rows.RowTurn.{RowTurn}
use Rattle.kt_serve.specs.declared.rows.RowTurn.TheVariants as row
use Rattle.kt_bytes.specs.declared.memory.NoMemory.{NoMemory}
use Rattle.kt_engine.specs.Engines.{EngineView, IsFound, core_from}
use Rattle.kt_tablet.specs.Views.{Opens}
use Rattle.kt_tablet.specs.declared.tablet.write.BeginNo.{BeginNo}
use Rattle.kt_tablet.specs.declared.tablet.write.BeginNo.TheVariants as no
use Rattle.kt_tablet.specs.Plans.{IsShort}
use Rattle.kt_engine.specs.Visits.{Root, PartView, IsVisit}
use Rattle.kt_engine.specs.declared.write.WriteDone.{WriteDone}
use Rattle.kt_tablet.specs.Visits.{HasEnded, IsDone}
use Rattle.kt_records.specs.declared.entry.CommitRow.{CommitRow}
use Rattle.kt_serve.specs.declared.log.LogTurn.{LogTurn}
use Rattle.kt_serve.specs.declared.log.LogTurn.TheVariants as turn

-- opening found this past: its store shows it
pub record Found {L D C : Type 0} (root : Root L D C) (first : Past) : Type 0 where
  pub opens : Opens root.opening root.mark root.opened first

-- the reply that these lines tell for a command, behind what opening found
abbrev pub told_by : {L D C : Type 0} → Root L D C → Past → List Event → ℕ → ℕ → Option Reply
told_by root first lines s i = told root.work (start root.work first root.opened) lines s i

-- the later lines answer no command more of this session
abbrev pub IsQuiet : {L D C : Type 0} → Root L D C → ℕ → List Event → List Event → Type 0
IsQuiet root s before after = (first : Past) → Found root first → (k : ℕ) → told_by root first after s k ≡ told_by root first before s k

-- they answer command i of this session with this reply, where it had none, and no other of the session
abbrev pub AnswersOne : {L D C : Type 0} → Root L D C → ℕ → ℕ → Reply → List Event → List Event → Type 0
AnswersOne root s i reply before after = (first : Past) → Found root first → (k : ℕ) → told_by root first after s k ≡ or_else (told_by root first before s k) (if k == i then Some reply else None)

-- the history has a `stop` line
abbrev pub has_stop : List Event → Bool
has_stop [] = false
has_stop (event.Stop ∷ lines) = true
has_stop (_ ∷ lines) = has_stop lines

-- the part tells this of what opening found and what is to be run
pub record HasRoot {L D C : Type 0} (root : Root L D C) (told : Option (PartView L D C)) : Type 0 where
  pub part : PartView L D C
  pub is : told ≡ Some part
  pub root_is : part.root ≡ root

-- command i of session s is this, as the part tells the plan
abbrev pub IsCommand : {L D C : Type 0} → Option (PartView L D C) → ℕ → ℕ → Command → Type 0
IsCommand {L} {D} {C} told s i command = (root : Root L D C) → HasRoot root told → command_at root.work s i ≡ Some command

-- No write of the session flies, it has drawn no time and does not have the log, and command i is its next.
pub record IsFree {L D C : Type 0} (told : Option (PartView L D C)) (i : ℕ) : Type 0 where
  pub part : PartView L D C
  pub is : told ≡ Some part
  pub calm : part.pass.session.flight ≡ []
  pub turn : part.pass.session.turn ≡ Some (record { next = i; look = None })
  pub home : part.pass.out ≡ None

-- Its write flies, and so many rows of it are applied.
pub record IsAloft {L D C : Type 0} (told : Option (PartView L D C)) (s i ts : ℕ) (ops : List RowOp) (applied : ℕ) : Type 0 where
  pub part : PartView L D C
  pub is : told ≡ Some part
  pub flight : part.pass.session.flight ≡ record { s = s; i = i; ts = ts; ops = ops; applied = applied } ∷ []
  pub turn : part.pass.session.turn ≡ Some (record { next = i; look = None })

-- Command i, this write, flies, and so many rows of it are applied.
pub record IsFlying {L D C : Type 0} (told : Option (PartView L D C)) (s i : ℕ) (write : Write) (applied : ℕ) : Type 0 where
  pub ts : ℕ
  pub aloft : IsAloft told s i ts write.ops applied
  pub command_is : IsCommand told s i (command.Write write)
  pub few : i + 1 < 2 ^ 32

-- The pass does not have the log.
pub record HasNoLog {L D C : Type 0} (told : Option (PartView L D C)) : Type 0 where
  pub part : PartView L D C
  pub is : told ≡ Some part
  pub home : part.pass.out ≡ None

-- The session of the pass does not run any more.
pub record HasLeft {L D C : Type 0} (told : Option (PartView L D C)) : Type 0 where
  pub part : PartView L D C
  pub is : told ≡ Some part
  pub over : part.pass.runs ≡ false

-- The pass has the log, as it went out with these records.
pub record HasLog {L D C : Type 0} (told : Option (PartView L D C)) (journal : JournalView L) (records : List Entry) : Type 0 where
  pub part : PartView L D C
  pub is : told ≡ Some part
  pub lent : part.lent ≡ Some journal
  pub out : part.pass.out ≡ Some records

-- a write that the formats allow
pub record IsWrite (i : ℕ) (ops : List RowOp) : Type 0 where
  pub count : may_hold (length ops) ≡ true
  pub each : EachAfter FollowingOp [] ops
  pub short : IsShort ops
  pub few : i + 1 < 2 ^ 32

-- What is alike in every part stays.
abbrev pub SameRoot : {L D C : Type 0} → Option (PartView L D C) → Option (PartView L D C) → Type 0
SameRoot {L} {D} {C} old new = (root : Root L D C) → HasRoot root old → HasRoot root new

-- what is true for what the part tells
abbrev pub OnRoot : {L D C : Type 0} → Option (PartView L D C) → (Root L D C → Type 0) → Type 0
OnRoot {L} {D} {C} told P = (root : Root L D C) → HasRoot root told → P root

-- its session stands where it stood, and what is alike in every part stays
abbrev pub SameSession : {L D C : Type 0} → Option (PartView L D C) → Option (PartView L D C) → Type 0
SameSession {L} {D} {C} old new = (p : PartView L D C) → old ≡ Some p → (q : PartView L D C) × (new ≡ Some q) × (q.pass.session ≡ p.pass.session) × (q.root ≡ p.root)

-- It stands where it stood, and no command of it was answered.
pub record IsStill {L D C : Type 0} (s : ℕ) (old new : Option (PartView L D C)) (before after : List Event) : Type 0 where
  pub session : SameSession old new
  pub quiet : OnRoot old (λ root. IsQuiet root s before after)

-- what a visit leaves that asks for the log: it goes out to the pass, or not
abbrev pub AfterTurn : {L D C : Type 0} → (JournalView L → List Entry → Type 0) → Option (PartView L D C) → List Event → LogTurn L → Type 0
AfterTurn Ready new after turn.Durable = HasNoLog new
AfterTurn Ready new after (turn.Append batch) = HasLog new batch.journal batch.records × Ready batch.journal batch.records
AfterTurn Ready new after turn.Wait = HasNoLog new
AfterTurn Ready new after turn.Stopped = HasNoLog new × (has_stop after ≡ true)
AfterTurn Ready new after turn.Memory = HasNoLog new

-- the same, of the engine
abbrev pub LentBy : {L D C : Type 0} → (JournalView L → List Entry → Type 0) → EngineView L D C → EngineView L D C → ℕ → LogTurn L → Type 0
LentBy Ready old new by turn.Durable = new ≡ old
LentBy Ready old new by (turn.Append batch) = (new.log.holder ≡ Some by) × (new.log.known ≡ batch.journal) × (new.log.out ≡ batch.records) × Ready batch.journal batch.records
LentBy Ready old new by turn.Wait = new ≡ old
LentBy Ready old new by turn.Stopped = (new ≡ old) × (old.tablet.core.stopped ≡ true)
LentBy Ready old new by turn.Memory = new ≡ old

-- whether a visit that asks for the log may change the engine: only where it goes out
abbrev pub changes : {L : Type 0} → LogTurn L → Bool
changes turn.Durable = false
changes (turn.Append batch) = true
changes turn.Wait = false
changes turn.Stopped = false
changes turn.Memory = false

-- a write of the session flies
abbrev pub Flies : {L D C : Type 0} → EngineView L D C → ℕ → Type 0
Flies view s = (w : Aloft) × (rest : List Aloft) × (filter (λ v. v.s == s) view.tablet.core.aloft ≡ w ∷ rest)

-- what a visit that may begin a write leaves
abbrev pub AfterBegin : {L D C : Type 0} → Option (PartView L D C) → Option (PartView L D C) → List Event → List Event → ℕ → ℕ → List RowOp → Result ℕ BeginNo → Type 0
AfterBegin old new before after s i ops (Ok ts) = IsAloft new s i ts ops 0 × HasNoLog new × OnRoot old (λ root. IsQuiet root s before after)
AfterBegin old new before after s i ops (Err (no.Large n)) = IsFree new (i + 1) × OnRoot old (λ root. AnswersOne root s i (reply.Large n) before after)
AfterBegin old new before after s i ops (Err no.Stopped) = IsFree new i × OnRoot old (λ root. IsQuiet root s before after) × (has_stop after ≡ true)
AfterBegin old new before after s i ops (Err (no.Wait ts)) = IsFree new i × OnRoot old (λ root. IsQuiet root s before after)
AfterBegin old new before after s i ops (Err (no.Room n left)) = IsFree new i × OnRoot old (λ root. IsQuiet root s before after)
AfterBegin old new before after s i ops (Err no.Memory) = IsFree new i × OnRoot old (λ root. IsQuiet root s before after)

-- The session went on, and no command of it was answered.
pub record IsGoing {L D C : Type 0} (s : ℕ) (old new : Option (PartView L D C)) (before after : List Event) : Type 0 where
  pub root : SameRoot old new
  pub quiet : OnRoot old (λ root. IsQuiet root s before after)

-- Command i of the session was answered so, and the next is its next; or a `stop` line stands in its way.
abbrev pub AfterCommand : {L D C : Type 0} → Option (PartView L D C) → Option (PartView L D C) → List Event → List Event → ℕ → ℕ → Reply → Type 0
AfterCommand old new before after s i reply.Stopped = (has_stop after ≡ true) × OnRoot old (λ root. IsQuiet root s before after)
AfterCommand old new before after s i (reply.At ts outcomes) = IsFree new (i + 1) × OnRoot old (λ root. AnswersOne root s i (reply.At ts outcomes) before after)
AfterCommand old new before after s i (reply.Rows t rows) = IsFree new (i + 1) × OnRoot old (λ root. AnswersOne root s i (reply.Rows t rows) before after)
AfterCommand old new before after s i (reply.Ancient t a) = IsFree new (i + 1) × OnRoot old (λ root. AnswersOne root s i (reply.Ancient t a) before after)
AfterCommand old new before after s i (reply.Busy t f) = IsFree new (i + 1) × OnRoot old (λ root. AnswersOne root s i (reply.Busy t f) before after)
AfterCommand old new before after s i (reply.Ahm a) = IsFree new (i + 1) × OnRoot old (λ root. AnswersOne root s i (reply.Ahm a) before after)
AfterCommand old new before after s i reply.Done = IsFree new (i + 1) × OnRoot old (λ root. AnswersOne root s i reply.Done before after)
AfterCommand old new before after s i (reply.Large n) = IsFree new (i + 1) × OnRoot old (λ root. AnswersOne root s i (reply.Large n) before after)

-- what the beginning of a write leaves: it flies, or it has its reply
abbrev pub AfterBeginning : {L D C : Type 0} → Option (PartView L D C) → Option (PartView L D C) → List Event → List Event → ℕ → ℕ → List RowOp → Result (Option Reply) NoMemory → Type 0
AfterBeginning old new before after s i ops (Ok None) = ((ts : ℕ) × IsAloft new s i ts ops 0) × IsGoing s old new before after
AfterBeginning old new before after s i ops (Ok (Some reply)) = AfterCommand old new before after s i reply × SameRoot old new
AfterBeginning old new before after s i ops (Err no_memory) = IsGoing s old new before after

-- its write flies in the engine, and so many rows of it are applied
abbrev pub OwnFlight : {L D C : Type 0} → EngineView L D C → ℕ → ℕ → ℕ → List RowOp → ℕ → Type 0
OwnFlight view s i ts ops n = filter (λ w. w.s == s) view.tablet.core.aloft ≡ record { s = s; i = i; ts = ts; ops = ops; applied = n } ∷ []

-- command i is the next of the session
abbrev pub IsNext : {L D C : Type 0} → EngineView L D C → ℕ → ℕ → Type 0
IsNext view s i = nth view.tablet.core.turns s ≡ Some (record { next = i; look = None })

-- of its write the rows from `at` up to `to` are applied, and nothing else has changed that the session sees
pub record Applies {L D C : Type 0} (old new : EngineView L D C) (s at to : ℕ) : Type 0 where
  pub visit : IsVisit s old new
  pub flight : (i ts : ℕ) (ops : List RowOp) → OwnFlight old s i ts ops at → OwnFlight new s i ts ops to
  pub turns : new.tablet.core.turns ≡ old.tablet.core.turns
  pub trail : new.tablet.core.trail ≡ old.tablet.core.trail
  pub log : new.log ≡ old.log

-- its write has ended: what comes out of it is what the run says
pub record EndsWith {L D C : Type 0} (old new : EngineView L D C) (s : ℕ) (done : WriteDone) : Type 0 where
  pub visit : IsVisit s old new
  pub ended : (i : ℕ) × HasEnded old.tablet.core new.tablet.core s i done.ts
  pub told : (first : Past) → IsFound old first → (rows : List CommitRow) × IsDone (core_from old first) old.tablet.names s done.outcomes rows
  pub holder : new.log.holder ≡ old.log.holder
  pub out : new.log.out ≡ old.log.out

-- what a visit leaves that may apply rows of a write of so many and end it, in the engine
abbrev pub AppliedBy : {L D C : Type 0} → EngineView L D C → EngineView L D C → ℕ → ℕ → ℕ → RowTurn → Type 0
AppliedBy old new s at count (row.Applied to) = Applies old new s at to × (at < to) × (to < count)
AppliedBy {L} {D} {C} old new s at count (row.Ended done) = (mid : EngineView L D C) × Applies old mid s at count × EndsWith mid new s done
AppliedBy old new s at count row.Early = new ≡ old
AppliedBy old new s at count row.Stopped = (new ≡ old) × (old.tablet.core.stopped ≡ true)

-- and for the session
abbrev pub AfterApply : {L D C : Type 0} → Option (PartView L D C) → Option (PartView L D C) → List Event → List Event → ℕ → Write → ℕ → RowTurn → Type 0
AfterApply old new before after s write at (row.Applied to) = IsGoing s old new before after × ((i : ℕ) → IsFlying old s i write at → IsFlying new s i write to) × (at < to) × (to < length write.ops)
AfterApply old new before after s write at (row.Ended done) = SameRoot old new × ((i : ℕ) → IsFlying old s i write at → AfterCommand old new before after s i (reply.At done.ts done.outcomes))
AfterApply old new before after s write at row.Early = IsStill s old new before after
AfterApply old new before after s write at row.Stopped = IsStill s old new before after × (has_stop after ≡ true)

-- a command that a session can run: a write that the formats allow, a scan, a mark, or maintenance
abbrev pub CanRun : ℕ → Command → Type 0
CanRun i (command.Write w) = IsWrite i w.ops
CanRun i (command.Mark t) = i + 1 < 2 ^ 32
CanRun i (command.Scan scan) = i + 1 < 2 ^ 32
CanRun i (command.Chore chore) = i + 1 < 2 ^ 32

-- these lines tell the session these replies and no other
abbrev pub TellsOwn : {L D C : Type 0} → Root L D C → ℕ → List Reply → List Event → Type 0
TellsOwn root s replies lines = (first : Past) → Found root first → (k : ℕ) → told_by root first lines s k ≡ nth replies k

-- an engine in which nothing has happened yet
pub record IsFresh {L D C : Type 0} (view : EngineView L D C) : Type 0 where
  pub lines : view.tablet.core.trail ≡ []
  pub calm : view.tablet.core.aloft ≡ []
  pub home : view.log.holder ≡ None
  pub store : view.store.holder ≡ None

-- the commands of a session that has not begun, and that can be run
pub record MayRun {L D C : Type 0} (told : Option (PartView L D C)) (seen : List Event) (s : ℕ) (commands : List Command) : Type 0 where
  pub next : IsFree told 1
  pub plan : OnRoot told (λ root. nth root.work.plan s ≡ Some commands)
  pub runs : (k : ℕ) (command : Command) → nth commands k ≡ Some command → CanRun k command
  pub few : length commands < 2 ^ 31
  pub tells : OnRoot told (λ root. TellsOwn root s [] seen)
