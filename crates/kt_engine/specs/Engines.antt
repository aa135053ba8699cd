-- What a clause sees of an engine, and what it keeps.
use Rattle.std.specs.Prelude.{◌≡◌, ◌≢◌, ◌≤◌, ◌+◌, ◌^◌, ◌&&◌, not, ℕ, suc, length, Bool, IsTrue, false, true, List, [], ◌∷◌, ◌++◌, map, take, Some, Ok}
use Rattle.std.specs.List.{All}
use Rattle.kt_base.specs.Causes.{Rose}
use Rattle.kt_disk.specs.Disk.{Files, ButFiles}
use Rattle.kt_history.specs.declared.event.Event.{Event}
use Rattle.kt_history.specs.declared.event.Event.TheVariants.{Stop}
use Rattle.kt_history.specs.History.{Past}
use Rattle.kt_history.specs.declared.target.Target.{Target}
use Rattle.kt_records.specs.declared.entry.Entry.{Entry}
use Rattle.kt_records.specs.Rules.{TargetFits}
use Rattle.kt_journal.specs.Order.{IsFramed}
use Rattle.kt_journal.specs.Log.{log_of, records_of, Holds, IsLog, IsOldOrBoth, CanOpen}
use Rattle.kt_journal.specs.Open.{JournalView}
use Rattle.kt_loglaws.specs.Side.{SideView, all_of}
use Rattle.kt_histlaws.specs.Core.{Core}
use Rattle.kt_content.specs.Places.{Super}
use Rattle.kt_content.specs.Rules.{Rules, AreRules}
use Rattle.kt_content.specs.Content.{IsContent as HoldsPast}
use Rattle.kt_tablet.specs.Views.{View, Opens}
use Rattle.kt_loglaws.specs.declared.side.LogNo.{LogNo as SideNo}
use Rattle.kt_loglaws.specs.declared.side.LogNo.TheVariants as side
use Rattle.kt_storeside.specs.Sides.{StoreView}
use Rattle.kt_engine.specs.declared.log.LogNo.{LogNo}
use Rattle.kt_engine.specs.declared.log.LogNo.TheVariants as no
use Rattle.kt_engine.specs.Memory.{AreNamed}
use Rattle.kt_engine.specs.Near.{IsUpTo, IsBelow}
use Rattle.kt_engine.specs.Over.{AreShelved}
use Rattle.kt_engine.specs.Jobs.{UpkeepsView}
use Rattle.kt_engine.specs.Logged.{PlanPasses, LogStands, KeepsRun, AreApart, IsDurable, AcknowledgedIn, NamesOnly, HoldsRecords, HoldsFront, HoldsRun}

-- the tablet, its log and its store, the records and the superblock that opening found, both devices as they were handed in, and the numbers of the sessions
-- that run
pub record EngineView (L D C : Type 0) : Type 0 where
  pub tablet : View C
  pub log : SideView L
  pub records : List Entry
  pub super : Super
  pub device : L
  pub store : StoreView D
  pub store_device : D
  pub running : List ℕ
  pub upkeep : UpkeepsView
  -- the first file and rowset numbers at opening, and the names of the stores then
  pub first_file : ℕ
  pub first_rowset : ℕ
  pub found : List Target

-- opening found this past: its store shows it
abbrev pub IsFound : {L D C : Type 0} → EngineView L D C → Past → Type 0
IsFound view first = Opens view.tablet.opening view.tablet.mark view.tablet.core.opened first

-- and by these rules of the table, which stay rules whatever is put over a row, the superblock and the log held it
pub record IsContent {L D C : Type 0} (rules : Rules) (view : EngineView L D C) (first : Past) : Type 0 where
  pub closed : AreRules rules
  pub opens : IsFound view first
  pub holds : HoldsPast rules view.tablet.core.work.fill view.super view.records view.tablet.core.opened first

-- the engine's core, for a past that opening found
abbrev pub core_from : {L D C : Type 0} → EngineView L D C → Past → Core
core_from view first = record view.tablet.core { first = first }

-- no job has begun, so that the stores are those that opening made: only then does the superblock that opening found tell of them
abbrev pub HasNoJobs : {L D C : Type 0} → EngineView L D C → Type 0
HasNoJobs view = view.upkeep.begun ≡ 0

-- the log stands, and, as long as no job has begun, keeps the run for each past that opening found: where its device tells, what is durable, out and queued are the
-- records, and what opening found is durable. The run's COMMITs name the engine's stores alone
pub record IsLogged {L D C : Type 0} (tells : Bool) (seen : L → Files) (view : EngineView L D C) : Type 0 where
  pub run : List Entry
  pub all : IsTrue tells → view.records ++ run ≡ all_of seen view.log
  pub count : length (view.records ++ run) ≡ view.log.known.count + length (view.log.out ++ view.log.queued)
  pub begins : IsTrue tells → (durable : List Entry) × (records_of (seen view.log.known.disk) ≡ view.records ++ durable)
  pub stands : LogStands view.tablet.core view.records view.tablet.places run
  pub keeps : (rules : Rules) (first : Past) → IsContent rules view first → PlanPasses rules view.tablet.core.work → HasNoJobs view → KeepsRun rules (core_from view first) view.super view.tablet.names view.tablet.notes view.records run
  pub names : HasNoJobs view → All (NamesOnly view.tablet.names) run
  pub framed : All IsFramed (view.log.out ++ view.log.queued)
  pub durable : IsTrue tells → All (IsDurable (records_of (seen view.log.known.disk))) view.tablet.core.aloft
  pub acknowledged : IsTrue tells → AcknowledgedIn (records_of (seen view.log.known.disk)) view.tablet.core.trail

-- each image that a crash now may leave of the new disk has all files but the log's as one of the old disk has them
abbrev pub KeepsOthers : {L : Type 0} → (L → ℕ) → (L → ℕ → Files → Type 0) → L → L → Type 0
KeepsOthers now leaves old new = (image : Files) → leaves new (now new) image → ButFiles now leaves old (1 ∷ []) image

-- the device at home: it can be opened, all files but the log's are as they were handed in, its count of faults has not fallen, and it
-- is the known log, nothing out, unless it has failed. Then that count has risen, and each image of it has what was durable, or that and the batch
pub record IsHome {L D C : Type 0} (tells : Bool) (seen : L → Files) (now : L → ℕ) (leaves : L → ℕ → Files → Type 0) (faults : L → ℕ) (view : EngineView L D C) (journal : JournalView L) : Type 0 where
  pub opens : IsTrue tells → CanOpen now leaves journal.disk
  pub others : IsTrue tells → KeepsOthers now leaves view.device journal.disk
  pub later : faults view.device ≤ faults journal.disk
  pub known : IsTrue view.log.whole → (journal ≡ view.log.known) × (view.log.out ≡ [])
  pub rose : view.log.whole ≡ false → Rose (faults view.device) (faults journal.disk)
  pub images : view.log.whole ≡ false → IsTrue tells → (image : Files) → leaves journal.disk (now journal.disk) image → IsOldOrBoth (records_of (seen view.log.known.disk)) view.log.out (image 1)

-- the lines tell whether the tablet has stopped: one that goes on has no `stop` line, and one that has stopped has it last
pub record TellsStop (core : Core) : Type 0 where
  pub goes : core.stopped ≡ false → All (λ e. e ≢ Stop) core.trail
  pub stopped : core.stopped ≡ true → (before : List Event) × (core.trail ≡ before ++ Stop ∷ [])

-- There is room for the COMMIT of each flying write, no two of these have one timestamp, their rows go to stores whose names can be spelled, and these stand for places
-- of the opening as long as no job has begun. Those of the MemRowSets come first, by falling number.
pub record IsReady {L D C : Type 0} (view : EngineView L D C) : Type 0 where
  pub room : length view.tablet.core.aloft ≤ view.log.room
  pub apart : AreApart view.tablet.core.aloft
  pub spelled : All TargetFits view.tablet.names
  pub shelved : AreShelved (suc view.tablet.frozen) (2 ^ 64) view.tablet.names
  pub named : HasNoJobs view → AreNamed view.super view.tablet.names

-- whether neither device has failed
abbrev pub are_whole : {L D C : Type 0} → EngineView L D C → Bool
are_whole view = view.log.whole && view.store.whole

-- The engine stands. A log that a pass has out is whole, and went out with no fewer faults than were handed in. The tablet goes on while both devices are whole.
pub record IsEngine {L D C : Type 0} (tells : Bool) (seen : L → Files) (now : L → ℕ) (leaves : L → ℕ → Files → Type 0) (faults : L → ℕ) (view : EngineView L D C) : Type 0 where
  pub logged : IsLogged tells seen view
  pub home : (journal : JournalView L) → view.log.home ≡ Some journal → IsHome tells seen now leaves faults view journal
  pub others : IsTrue tells → KeepsOthers now leaves view.device view.log.known.disk
  pub lent : (by : ℕ) → view.log.holder ≡ Some by → (faults view.device ≤ faults view.log.known.disk) × IsTrue view.log.whole
  pub whole : view.tablet.core.stopped ≡ not (are_whole view)
  pub stops : TellsStop view.tablet.core
  pub ready : IsReady view
  pub placed : map (λ p. p.0) view.tablet.places ≡ map (λ w. w.s) view.tablet.core.aloft

-- A crash now leaves the records that opening found, and behind them some of the run. Where opening gave no number that is more than one above a bound, those of
-- its stores and the first rowset number, each number that a COMMIT of these names is less than 2^45 above it.
abbrev pub LeavesRecords : {L D C : Type 0} → Bool → (L → ℕ) → (L → ℕ → Files → Type 0) → EngineView L D C → Type 0
LeavesRecords tells now leaves view = IsTrue tells → (journal : JournalView _) → view.log.home ≡ Some journal → (image : Files) → leaves journal.disk (now journal.disk) image
    → (bound : ℕ) → 1 ≤ bound → view.first_rowset ≤ bound + 1 → All (IsUpTo (bound + 1)) view.found → HoldsRecords view.records (IsBelow (bound + 2 ^ 45)) image

-- A crash now leaves the opened past with the run's writes up to a time, each acknowledged one among them.
abbrev pub Recovers : {L D C : Type 0} → Bool → (L → ℕ) → (L → ℕ → Files → Type 0) → EngineView L D C → Type 0
Recovers tells now leaves view = (rules : Rules) (first : Past) → IsContent rules view first → PlanPasses rules view.tablet.core.work → HasNoJobs view → IsTrue tells → (journal : JournalView _) → view.log.home ≡ Some journal
    → (image : Files) → leaves journal.disk (now journal.disk) image → HoldsFront rules (core_from view first) view.super view.records view.tablet.names image

-- So does an image that has what is durable and, in their order, some of the records that are out and queued: what a crash leaves while a
-- pass has the log out.
abbrev pub RecoversEach : {L D C : Type 0} → Bool → (L → Files) → EngineView L D C → Type 0
RecoversEach tells seen view = (rules : Rules) (first : Past) → IsContent rules view first → PlanPasses rules view.tablet.core.work → HasNoJobs view → IsTrue tells → (n : ℕ) (image : Files)
    → log_of image ≡ Ok (records_of (seen view.log.known.disk) ++ take n (view.log.out ++ view.log.queued)) → HoldsFront rules (core_from view first) view.super view.records view.tablet.names image

-- And with all of them, where nothing waits for the log and nothing has stopped it.
abbrev pub RecoversAll : {L D C : Type 0} → Bool → (L → ℕ) → (L → ℕ → Files → Type 0) → EngineView L D C → Type 0
RecoversAll tells now leaves view = (rules : Rules) (first : Past) → IsContent rules view first → PlanPasses rules view.tablet.core.work → HasNoJobs view → view.tablet.core.stopped ≡ false → view.log.queued ≡ [] → IsTrue tells → (journal : JournalView _) → view.log.home ≡ Some journal
    → (image : Files) → leaves journal.disk (now journal.disk) image → HoldsRun rules (core_from view first) view.super view.records view.tablet.names image

-- what a pass may do with the log that it has out: append its records
pub record IsLent {L : Type 0} (tells : Bool) (seen : L → Files) (now : L → ℕ) (leaves : L → ℕ → Files → Type 0) (journal : JournalView L) (records : List Entry) : Type 0 where
  pub usable : IsTrue journal.usable
  pub framed : All IsFramed records
  pub in_order : IsTrue tells → IsLog (records_of (seen journal.disk) ++ records)
  pub holds : IsTrue tells → Holds now leaves journal.disk (records_of (seen journal.disk))
  pub opens : IsTrue tells → CanOpen now leaves journal.disk

-- why the log is not lent, as its side says it
abbrev pub no_of : SideNo → LogNo
no_of (side.Out by) = no.Out by
no_of side.Empty = no.Empty
no_of side.Memory = no.Memory
