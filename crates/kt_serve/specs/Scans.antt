-- The visits of a scan, and what they leave of its session.
use Rattle.std.specs.Prelude.{◌≡◌, ◌≢◌, ◌≤◌, ◌+◌, ◌==◌, ℕ, Bool, List, [], length, true, false, Option, Some, None, Result, Ok, Err, if◌then◌else◌}
use Rattle.std.specs.List.{All}
use Rattle.kt_history.specs.declared.event.Event.{Event}
use Rattle.kt_history.specs.declared.reply.Reply.{Reply}
use Rattle.kt_history.specs.declared.reply.Reply.TheVariants as reply
use Rattle.kt_history.specs.declared.scan.At.{At}
use Rattle.kt_history.specs.declared.scan.At.TheVariants.{Looked}
use Rattle.kt_history.specs.History.{Past, rows_at}
use Rattle.kt_history.specs.Rows.{Row}
use Rattle.kt_history.specs.Machine.{Workload, nth, command_at, IfScan, start, state_after}
use Rattle.kt_history.specs.Replies.{shown_by}
use Rattle.kt_histlaws.specs.Histories.{or_else}
use Rattle.kt_schema.specs.declared.column.Column.{Column}
use Rattle.kt_schema.specs.Columns.{fill_of}
use Rattle.kt_scan.specs.Live.{AreRowsOf, row_in}
use Rattle.kt_diskrowset.specs.declared.data.RowSetData.{RowSetData}
use Rattle.kt_diskrowset.specs.Page.{row_told}
use Rattle.kt_tablet.specs.declared.snap.Snap.{Snap}
use Rattle.kt_tablet.specs.Copies.{mark_of, copied_row}
use Rattle.kt_tablet.specs.declared.tablet.LookNo.{LookNo}
use Rattle.kt_tablet.specs.declared.tablet.LookNo.TheVariants as look
use Rattle.kt_tablet.specs.declared.tablet.scan.SnapNo.{SnapNo}
use Rattle.kt_tablet.specs.declared.tablet.scan.SnapNo.TheVariants as no
use Rattle.kt_tablet.specs.Reads.{HasDrawn}
use Rattle.kt_tablet.specs.Views.{work_of}
use Rattle.kt_engine.specs.Visits.{Root, PartView}
use Rattle.kt_serve.specs.declared.scan.ScanTurn.{ScanTurn}
use Rattle.kt_serve.specs.declared.scan.ScanTurn.TheVariants as turn
use Rattle.kt_serve.specs.Sessions.{Found, told_by, IsQuiet, IsFree, OnRoot, SameRoot, AfterCommand, has_stop}

-- the workload is of a table of these columns
abbrev pub IsOn : List Column → Workload → Type 0
IsOn columns work = work ≡ work_of columns work.plan work.cells (fill_of columns)

-- command i of session s is a scan that reads then
abbrev pub ScansAt : {L D C : Type 0} → Option (PartView L D C) → ℕ → ℕ → At → Type 0
ScansAt {L} {D} {C} told s i at = OnRoot told (λ (root : Root L D C). IfScan (command_at root.work s i) (λ w. w ≡ at))

-- No write of the session flies, it does not have the log, and command i is its next, a scan that reads then and whose time is drawn.
pub record IsLooking {L D C : Type 0} (told : Option (PartView L D C)) (i : ℕ) (at : At) : Type 0 where
  pub part : PartView L D C
  pub is : told ≡ Some part
  pub look : Option ℕ
  pub calm : part.pass.session.flight ≡ []
  pub turn : part.pass.session.turn ≡ Some (record { next = i; look = look })
  pub home : part.pass.out ≡ None
  pub drawn : HasDrawn at look

-- what a visit leaves that may draw the time of a scan of the present
abbrev pub AfterLook : {L D C : Type 0} → Option (PartView L D C) → Option (PartView L D C) → List Event → List Event → ℕ → ℕ → Result ℕ LookNo → Type 0
AfterLook old new before after s i (Ok t) = IsLooking new i Looked × OnRoot old (λ root. IsQuiet root s before after)
AfterLook old new before after s i (Err look.Stopped) = (has_stop after ≡ true) × OnRoot old (λ root. IsQuiet root s before after)
AfterLook old new before after s i (Err look.Memory) = OnRoot old (λ root. IsQuiet root s before after)

-- the past of the run that these lines are, behind what opening found
abbrev pub past_by : {L D C : Type 0} → Root L D C → Past → List Event → Past
past_by root first lines = (state_after root.work (start root.work first root.opened) lines).past

-- what is copied of the stores of a tablet for a scan
abbrev pub TabletSnap : Type 0
TabletSnap = Snap RowSetData

-- the row of a key that the copies of a snapshot have at its time
abbrev pub snap_row : TabletSnap → List ℕ → Option Row
snap_row snap key = row_in (λ v k t. copied_row row_told k t v) snap.views key snap.t

-- it has the rows of the run that these lines are
abbrev pub ShowsRows : {L D C : Type 0} → Root L D C → TabletSnap → List Event → Type 0
ShowsRows root snap lines = (first : Past) → Found root first → AreRowsOf (snap_row snap) (rows_at (past_by root first lines) snap.t)

-- the later lines answer command i of this session by the rows at t of the run that all are, where it had no reply, and no other of the session
abbrev pub AnswersRows : {L D C : Type 0} → Root L D C → ℕ → ℕ → ℕ → List Event → List Event → Type 0
AnswersRows root s i t before after = (first : Past) → Found root first → (k : ℕ)
    → told_by root first after s k ≡ or_else (told_by root first before s k) (if k == i then Some (reply.Rows t (shown_by root.work.keys (command_at root.work s i) (rows_at (past_by root first after) t))) else None)

-- A scan has read this snapshot, whose views tell rows at its time: those of the run. A line answers the scan by them.
pub record HasSnapped {L D C : Type 0} (told : Option (PartView L D C)) (before after : List Event) (s i : ℕ) (snap : TabletSnap) : Type 0 where
  pub since : snap.mark ≤ snap.t
  pub marks : All (λ v. mark_of v ≤ snap.mark) snap.views
  pub shows : OnRoot told (λ root. ShowsRows root snap after)
  pub answers : OnRoot told (λ root. AnswersRows root s i snap.t before after)

-- what becomes of a scan, by what the engine says
abbrev pub turn_of_read : Result TabletSnap SnapNo → ScanTurn
turn_of_read (Ok snap) = turn.Read snap
turn_of_read (Err no.Stopped) = turn.Told reply.Stopped
turn_of_read (Err (no.Ancient t a)) = turn.Told (reply.Ancient t a)
turn_of_read (Err (no.Busy t f)) = turn.Told (reply.Busy t f)
turn_of_read (Err (no.NotYet f)) = turn.Wait
turn_of_read (Err no.Memory) = turn.Memory

-- whether a visit that may read a snapshot may change the engine: not where the scan waits
abbrev pub changes : ScanTurn → Bool
changes (turn.Read snap) = true
changes (turn.Told reply) = true
changes turn.Wait = false
changes turn.Memory = true

-- what a visit leaves that may read a snapshot
abbrev pub AfterRead : {L D C : Type 0} → Option (PartView L D C) → Option (PartView L D C) → List Event → List Event → ℕ → ℕ → At → ScanTurn → Type 0
AfterRead old new before after s i at (turn.Read snap) = IsFree new (i + 1) × HasSnapped old before after s i snap
AfterRead old new before after s i at (turn.Told reply) = AfterCommand old new before after s i reply
AfterRead old new before after s i at turn.Wait = IsLooking new i at × OnRoot old (λ root. IsQuiet root s before after)
AfterRead old new before after s i at turn.Memory = OnRoot old (λ root. IsQuiet root s before after)

-- the later lines answer no other command of this session than command i
abbrev pub IsQuietBut : {L D C : Type 0} → Root L D C → ℕ → ℕ → List Event → List Event → Type 0
IsQuietBut root s i before after = (first : Past) → Found root first → (k : ℕ) → k ≢ i → told_by root first after s k ≡ told_by root first before s k

-- The session went on, and command i of it met want of memory: a line may answer it, and no other command was answered.
pub record LacksReply {L D C : Type 0} (s i : ℕ) (old new : Option (PartView L D C)) (before after : List Event) : Type 0 where
  pub root : SameRoot old new
  pub quiet : OnRoot old (λ root. IsQuietBut root s i before after)

-- these lines tell the session these replies, and no other, but maybe one to the command after them
abbrev pub TellsBut : {L D C : Type 0} → Root L D C → ℕ → List Reply → List Event → Type 0
TellsBut root s replies lines = (first : Past) → Found root first → (k : ℕ) → k ≢ length replies + 1 → told_by root first lines s k ≡ nth replies k
