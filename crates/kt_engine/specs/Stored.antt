-- The store of an engine: the superblock that it publishes and one that is lent, the run that the log keeps under each, and what a crash leaves of both devices.
use Rattle.std.specs.Prelude.{◌≡◌, ◌⊎◌, ◌≤◌, ◌+◌, ◌-◌, ◌^◌, ◌==◌, ◌++◌, ℕ, length, Bool, if◌then◌else◌, IsTrue, List, [], ◌∷◌, map, take, Some, None, Ok, Option}
use Rattle.kt_base.specs.Causes.{Rose}
use Rattle.kt_disk.specs.Disk.{Files}
use Rattle.kt_history.specs.declared.event.Event.{Event}
use Rattle.kt_history.specs.declared.event.Event.TheVariants as event
use Rattle.kt_history.specs.History.{Past}
use Rattle.kt_history.specs.declared.target.Target.{Target}
use Rattle.kt_records.specs.declared.entry.Entry.{Entry}
use Rattle.kt_journal.specs.Log.{log_of, records_of}
use Rattle.kt_journal.specs.Open.{JournalView}
use Rattle.kt_loglaws.specs.Side.{all_of}
use Rattle.kt_histlaws.specs.Core.{Core}
use Rattle.kt_super.specs.declared.meta.Meta.{Meta}
use Rattle.kt_super.specs.Body.{IsMeta}
use Rattle.kt_super.specs.Slots.{super_of, AreStable}
use Rattle.kt_diskrowset.specs.Rowset.{HeldFiles}
use Rattle.kt_files.specs.Reading.{HoldAll}
use Rattle.kt_content.specs.Places.{Super}
use Rattle.kt_content.specs.Rules.{Rules}
use Rattle.kt_content.specs.RunEvents.{Numbers, RecordsBelow, StoresBelow}
use Rattle.kt_reopen.specs.Both.{super_in}
use Rattle.kt_storeside.specs.Sides.{StoreView, HasEither}
use Rattle.kt_storeside.specs.Next.{next_meta}
use Rattle.kt_engine.specs.declared.store.Purpose.{Purpose}
use Rattle.kt_engine.specs.declared.store.Purpose.TheVariants as purpose
use Rattle.kt_engine.specs.Memory.{name_of}
use Rattle.kt_engine.specs.Near.{AreNear, LeavesRoom, first_number, most_files}
use Rattle.kt_engine.specs.Over.{Over, over_at, names_over, core_over}
use Rattle.kt_engine.specs.Jobs.{JobView, JobOn, job_of, over_in}
use Rattle.kt_engine.specs.declared.upkeep.Stage.TheVariants as stage
use Rattle.kt_engine.specs.Outside.{IsOutside}
use Rattle.kt_engine.specs.Files.{AreFiled, publisher, job_at, files_over}
use Rattle.kt_engine.specs.JobMeta.{with_outputs}
use Rattle.kt_engine.specs.Logged.{PlanPasses, LogStands, KeepsSince, HoldsUpTo}
use Rattle.kt_engine.specs.Engines.{EngineView, IsContent, core_from}

-- it is the superblock that is published, or the one that is lent
abbrev pub IsOneOf : {D : Type 0} → StoreView D → Meta → Type 0
IsOneOf store m = (m ≡ store.meta) ⊎ (store.lent ≡ Some m)

-- the mark of the opening past, or that of a `mark` line
abbrev pub IsMarkOf : ℕ → List Event → ℕ → Type 0
IsMarkOf first [] a = a ≡ first
IsMarkOf first (event.Mark s i to ∷ events) a = (a ≡ to) ⊎ IsMarkOf first events a
IsMarkOf first (_ ∷ events) a = IsMarkOf first events a

-- Each superblock that is published or lent has the mark that opening found or that of a `mark` line, no later last timestamp than the run, and one table.
pub record AreMarked {L D C : Type 0} (view : EngineView L D C) : Type 0 where
  pub mark : (m : Meta) → IsOneOf view.store m → IsMarkOf view.tablet.mark view.tablet.core.trail m.a
  pub last : (m : Meta) → IsOneOf view.store m → m.c ≤ view.tablet.core.c
  pub table : (m : Meta) → IsOneOf view.store m → m.schema ≡ view.store.meta.schema

-- ---- what each is told of

-- The outputs of the job that publishes: a superblock from its own on is told of the stores that stand once the job is over
abbrev pub over : {L D C : Type 0} → EngineView L D C → Option Over
over view = over_in view.upkeep

abbrev pub core_at : {L D C : Type 0} → EngineView L D C → Meta → Core → Core
core_at view m core = core_over (over_at m.number (over view)) view.tablet.names core

abbrev pub names_at : {L D C : Type 0} → EngineView L D C → Meta → List Target
names_at view m = names_over (over_at m.number (over view)) view.tablet.names

abbrev pub files_at : {L D C : Type 0} → EngineView L D C → Meta → List HeldFiles
files_at view m = files_over (job_at m.number (publisher view.upkeep)) view.tablet.files

-- A record that opening found may name a rowset of its type's last number. The next number stays there then, and none is given: all lie below the one behind it
abbrev pub next_given : ℕ → ℕ
next_given next = if next == 2 ^ 64 - 1 then 2 ^ 64 else next

-- the numbers that the engine has given to stores
abbrev pub numbers_of : {L D C : Type 0} → EngineView L D C → Numbers
numbers_of view = record { next = next_given view.store.next_rowset; active = first_number view.tablet.names; deltas = [] }

-- what one of them says, with what the files have that it names
pub record IsSuperOf {D : Type 0} (seen : D → Files) (store : StoreView D) (super : Super) : Type 0 where
  pub meta : Meta
  pub one : IsOneOf store meta
  pub held : List HeldFiles
  pub hold : HoldAll (seen store.known) meta.rowsets held
  pub is : super ≡ super_in meta held

-- each job that is outside is as it went
abbrev pub AreOutside : {L D C : Type 0} → EngineView L D C → List Entry → Type 0
AreOutside view records = (n : ℕ) (job : JobView) → job_of n view.upkeep ≡ Some job → job.stage ≡ stage.Outside → IsOutside view.tablet view.store.meta view.store.lent view.upkeep records job

-- Beside a log that stands: under each superblock that is published or lent the log keeps the run for each past that opening found, from the records on that were
-- durable as it was made, over the stores that it is told of. No record and no store has a number above those that the engine has given, and these lie near those that opening found, and within what the store lets a superblock spell. While a job publishes nothing flies. The files of each hold rowsets, those of the disk rowsets in memory among them, and each has the same columns, the mark that opening
-- found or that of a `mark` line, none above that of the run, and no later last timestamp than the run. A job that is outside finds its disk rowsets with what it took. The store went out with no fewer faults than were handed in.
pub record IsStored {L D C : Type 0} (log_tells : Bool) (log_seen : L → Files) (tells : Bool) (seen : D → Files) (faults : D → ℕ) (view : EngineView L D C) : Type 0 where
  pub run : List Entry
  pub all : IsTrue log_tells → view.records ++ run ≡ all_of log_seen view.log
  pub count : length (view.records ++ run) ≡ view.log.known.count + length (view.log.out ++ view.log.queued)
  pub stands : LogStands view.tablet.core view.records view.tablet.places run
  pub keeps : (rules : Rules) (first : Past) → IsContent rules view first → PlanPasses rules view.tablet.core.work → IsTrue tells → (super : Super) → (one : IsSuperOf seen view.store super)
      → KeepsSince rules (core_at view one.meta (core_from view first)) super (names_at view one.meta) view.tablet.notes view.records run view.log.known.count
  pub below : RecordsBelow (numbers_of view) (view.records ++ run)
  pub names_below : StoresBelow (numbers_of view) (map name_of view.tablet.names)
  pub near : AreNear view.found view.tablet.names view.first_rowset view.store.next_rowset view.upkeep.begun run
  pub files_near : view.store.next_file ≤ view.first_file + most_files
  pub room : LeavesRoom view.found view.first_rowset view.store.first.most
  pub rests : (view.upkeep.publishing ≡ None) ⊎ (view.tablet.core.aloft ≡ [])
  pub jobs : (n : ℕ) (job : JobView) → job_of n view.upkeep ≡ Some job → JobOn (view.records ++ run) job
  pub outside : AreOutside view (view.records ++ run)
  pub holds : IsTrue tells → (m : Meta) → IsOneOf view.store m → (held : List HeldFiles) × HoldAll (seen view.store.known) m.rowsets held
  pub files : (m : Meta) → IsOneOf view.store m → AreFiled tells (seen view.store.known) m.rowsets (files_at view m)
  pub columns : (m : Meta) → view.store.lent ≡ Some m → m.schema ≡ view.store.meta.schema
  pub mark : IsMarkOf view.tablet.mark view.tablet.core.trail view.tablet.core.a
  pub marked : (m : Meta) → IsOneOf view.store m → IsMarkOf view.tablet.mark view.tablet.core.trail m.a
  pub clock : (m : Meta) → IsOneOf view.store m → m.c ≤ view.tablet.core.c
  pub low : (m : Meta) → IsOneOf view.store m → m.a ≤ view.tablet.core.a
  pub later : faults view.store_device ≤ faults view.store.known
  pub home : (disk : D) → view.store.home ≡ Some disk → faults view.store.known ≤ faults disk

-- An image of the log and one of the store: with the superblock of the one, and what the files hold that it names, the records of the other hold the opened past
-- from its mark on, with the run's writes up to some time, each acknowledged one among them.
pub record HoldsBoth (rules : Rules) (core : Core) (store : Meta → Type 0) (found : List Entry) (numbers : Numbers) (log_image image : Files) : Type 0 where
  pub meta : Meta
  pub superblock : super_of image ≡ Ok (Some meta)
  pub one : store meta
  pub held : List HeldFiles
  pub hold : HoldAll image meta.rowsets held
  pub front : HoldsUpTo rules core (super_in meta held) found numbers log_image

-- So it is of an image with what is durable and some of the records that are out and queued, and one with a superblock that is published or lent
-- and the files that it names: what a crash leaves at any moment, wherever both devices are.
abbrev pub RecoversPair : {L D C : Type 0} → Bool → (L → Files) → Bool → (D → Files) → EngineView L D C → Type 0
RecoversPair log_tells log_seen tells seen view = (rules : Rules) (first : Past) → IsContent rules view first → PlanPasses rules view.tablet.core.work → IsTrue log_tells → IsTrue tells
    → (n : ℕ) (log_image image : Files) → log_of log_image ≡ Ok (records_of (log_seen view.log.known.disk) ++ take n (view.log.out ++ view.log.queued)) → HasEither seen view.store image
    → HoldsBoth rules (core_from view first) (IsOneOf view.store) view.records (numbers_of view) log_image image

-- And of each pair that a crash now leaves of both devices at home
abbrev pub RecoversBoth : {L D C : Type 0} → Bool → (L → ℕ) → (L → ℕ → Files → Type 0) → Bool → (D → ℕ) → (D → ℕ → Files → Type 0) → EngineView L D C → Type 0
RecoversBoth log_tells log_now log_leaves tells now leaves view = (rules : Rules) (first : Past) → IsContent rules view first → PlanPasses rules view.tablet.core.work → IsTrue log_tells → IsTrue tells
    → (journal : JournalView _) → view.log.home ≡ Some journal → (disk : _) → view.store.home ≡ Some disk
    → (log_image image : Files) → log_leaves journal.disk (log_now journal.disk) log_image → leaves disk (now disk) image
    → HoldsBoth rules (core_from view first) (IsOneOf view.store) view.records (numbers_of view) log_image image

-- a device that has failed has more faults than were handed in
pub record HasFailed {L D C : Type 0} (log_faults : L → ℕ) (faults : D → ℕ) (view : EngineView L D C) : Type 0 where
  pub log : (journal : JournalView L) → view.log.home ≡ Some journal → log_faults view.device ≤ log_faults journal.disk
  pub store : (disk : D) → view.store.home ≡ Some disk → faults view.store_device ≤ faults disk
  pub one : IsTrue view.tablet.core.stopped → (journal : JournalView L) → view.log.home ≡ Some journal → (disk : D) → view.store.home ≡ Some disk
      → Rose (log_faults view.device) (log_faults journal.disk) ⊎ Rose (faults view.store_device) (faults disk)

-- the superblock that an engine lends for publishing where no job has changed a store
abbrev pub next_super : {L D C : Type 0} → EngineView L D C → Meta
next_super view = next_meta view.store view.tablet.core.a view.tablet.core.c view.log.known.count

-- and that of a job: the next one without what it takes, and with its outputs behind the other rowsets
abbrev pub job_meta : {L D C : Type 0} → EngineView L D C → JobView → Meta
job_meta view job = with_outputs (Some job) (next_super view)

abbrev pub meta_by : {L D C : Type 0} → Option JobView → EngineView L D C → Meta
meta_by job view = with_outputs job (next_super view)

-- for a pass, which has a job or none
abbrev pub meta_for : {L D C : Type 0} → ℕ → Purpose → EngineView L D C → Option Meta
meta_for n purpose.Write view = None
meta_for n purpose.Publish view = Some (meta_by (job_of n view.upkeep) view)

-- what a pass may do with the store that it has out: publish that superblock
pub record MayPublish {D : Type 0} (tells : Bool) (seen : D → Files) (now : D → ℕ) (leaves : D → ℕ → Files → Type 0) (disk : D) (m : Meta) : Type 0 where
  pub rules : IsMeta m
  pub stable : IsTrue tells → AreStable seen now leaves disk
  pub next : IsTrue tells → (was : Meta) × (super_of (seen disk) ≡ Ok (Some was)) × (m.number ≡ was.number + 1)
