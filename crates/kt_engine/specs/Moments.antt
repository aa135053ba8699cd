-- The moments inside a call on one device: what a crash there leaves of it holds the run, with whatever one leaves of the other device.
use Rattle.std.specs.Prelude.{◌≡◌, ◌++◌, ℕ, Bool, IsTrue, List, take, Option, Some, None, Ok}
use Rattle.kt_disk.specs.Disk.{Files, LeavesOnly}
use Rattle.kt_history.specs.History.{Past}
use Rattle.kt_records.specs.declared.entry.Entry.{Entry}
use Rattle.kt_journal.specs.Log.{log_of, records_of, IsOldOrBoth}
use Rattle.kt_journal.specs.Open.{JournalView}
use Rattle.kt_super.specs.declared.meta.Meta.{Meta}
use Rattle.kt_outputs.specs.Outputs.{ButNumbers}
use Rattle.kt_content.specs.Rules.{Rules}
use Rattle.kt_storeside.specs.Supers.{BetweenBoth}
use Rattle.kt_storeside.specs.Sides.{StoreView, HasEither, LeavesEither, IsSide}
use Rattle.kt_engine.specs.Logged.{PlanPasses}
use Rattle.kt_engine.specs.Engines.{EngineView, IsContent, core_from}
use Rattle.kt_engine.specs.Visits.{part_in}
use Rattle.kt_engine.specs.Stored.{IsOneOf, numbers_of, HoldsBoth, RecoversPair}

-- ---- what a crash leaves of each device

-- an image of the log has what is durable and, in their order, some of the records that are out and queued
abbrev pub HasSome : {L D C : Type 0} → (L → Files) → EngineView L D C → Files → Type 0
HasSome log_seen view image = (n : ℕ) × (log_of image ≡ Ok (records_of (log_seen view.log.known.disk) ++ take n (view.log.out ++ view.log.queued)))

-- so has each that a crash now leaves of the log at home
abbrev pub LogLeavesSome : {L D C : Type 0} → Bool → (L → Files) → (L → ℕ) → (L → ℕ → Files → Type 0) → EngineView L D C → Type 0
LogLeavesSome log_tells log_seen log_now log_leaves view = IsTrue log_tells → (journal : JournalView _) → view.log.home ≡ Some journal → (image : Files) → log_leaves journal.disk (log_now journal.disk) image → HasSome log_seen view image

-- and of the store at home each has the published superblock or the lent one, and the files that it names
abbrev pub StoreLeavesEither : {L D C : Type 0} → Bool → (D → Files) → (D → ℕ) → (D → ℕ → Files → Type 0) → EngineView L D C → Type 0
StoreLeavesEither tells seen now leaves view = IsTrue tells → (disk : _) → view.store.home ≡ Some disk → LeavesEither seen now leaves view.store disk

-- A pair of images holds the opened past with the run's writes up to some time, each acknowledged one among them.
abbrev pub HoldRun : {L D C : Type 0} → Rules → Past → EngineView L D C → Files → Files → Type 0
HoldRun rules first view log_image image = HoldsBoth rules (core_from view first) (IsOneOf view.store) view.records (numbers_of view) log_image image

-- An image of the log does so with each of such images of the store, and one of the store with each of such images of the log
abbrev pub HoldsWithStore : {L D C : Type 0} → (D → Files) → Rules → Past → EngineView L D C → Files → Type 0
HoldsWithStore seen rules first view log_image = (image : Files) → HasEither seen view.store image → HoldRun rules first view log_image image

abbrev pub HoldsWithLog : {L D C : Type 0} → (L → Files) → Rules → Past → EngineView L D C → Files → Type 0
HoldsWithLog log_seen rules first view image = (log_image : Files) → HasSome log_seen view log_image → HoldRun rules first view log_image image

-- ---- calls on the log

-- A pass has the log, as it went out to it, with these records: so its part says, which no visit of another pass changes.
pub record HasLog {L D C : Type 0} (view : EngineView L D C) (pass : ℕ) (journal : JournalView L) (batch : List Entry) : Type 0 where
  pub lent : (part_in view pass).lent ≡ Some journal
  pub out : (part_in view pass).pass.out ≡ Some batch

-- The pass appends them: at each moment a crash left the old records, or those and the batch.
abbrev pub IsAppendedTo : {L : Type 0} → (L → Files) → (L → ℕ) → (L → ℕ → Files → Type 0) → JournalView L → List Entry → L → Type 0
IsAppendedTo log_seen log_now log_leaves journal batch later = LeavesOnly log_now log_leaves (λ c. IsOldOrBoth (records_of (log_seen journal.disk)) batch (c 1)) journal.disk later

-- So at each moment, whatever the engine had come to by then, it held the run with whatever was left of the store.
abbrev pub AppendsRecover : (L D C : Type 0) → Bool → (L → Files) → (L → ℕ) → (L → ℕ → Files → Type 0) → Bool → (D → Files) → Type 0
AppendsRecover L D C log_tells log_seen log_now log_leaves tells seen = (pass : ℕ) (journal : JournalView L) (batch : List Entry) (later : L) → IsAppendedTo log_seen log_now log_leaves journal batch later
    → (view : EngineView L D C) → HasLog view pass journal batch → RecoversPair log_tells log_seen tells seen view
    → (rules : Rules) (first : Past) → IsContent rules view first → PlanPasses rules view.tablet.core.work → IsTrue log_tells → IsTrue tells
    → LeavesOnly log_now log_leaves (HoldsWithStore seen rules first view) journal.disk later

-- ---- calls on the store

-- At each moment of a turn that was to publish a superblock, a crash left what publishing it leaves; of one that was to write files, it left all files but those of these numbers.
abbrev pub LeavesInTurn : {D : Type 0} → (D → Files) → (D → ℕ) → (D → ℕ → Files → Type 0) → Option Meta → ℕ → ℕ → D → D → Type 0
LeavesInTurn seen now leaves (Some meta) first next old new = LeavesOnly now leaves (BetweenBoth seen now leaves meta old) old new
LeavesInTurn seen now leaves None first next old new = LeavesOnly now leaves (ButNumbers now leaves old first next) old new

-- at each moment since it went out a crash left the published superblock or the lent one, and the files that it names
abbrev pub HasEitherSince : {D : Type 0} → (D → Files) → (D → ℕ) → (D → ℕ → Files → Type 0) → StoreView D → D → Type 0
HasEitherSince seen now leaves store later = LeavesOnly now leaves (HasEither seen store) store.known later

-- So it is while the lent one is published
abbrev pub PublishesLeaveEither : (D : Type 0) → Bool → (D → Files) → (D → ℕ) → (D → ℕ → Files → Type 0) → (D → ℕ) → Type 0
PublishesLeaveEither D tells seen now leaves faults = (store : StoreView D) → IsSide tells seen now leaves faults store → IsTrue tells
    → (meta : Meta) → store.lent ≡ Some meta → (later : D) → LeavesOnly now leaves (BetweenBoth seen now leaves meta store.known) store.known later → HasEitherSince seen now leaves store later

-- and while files of new numbers are written
abbrev pub WritesLeaveEither : (D : Type 0) → Bool → (D → Files) → (D → ℕ) → (D → ℕ → Files → Type 0) → (D → ℕ) → Type 0
WritesLeaveEither D tells seen now leaves faults = (store : StoreView D) → IsSide tells seen now leaves faults store → IsTrue tells
    → (next : ℕ) (later : D) → LeavesOnly now leaves (ButNumbers now leaves store.known store.next_file next) store.known later → HasEitherSince seen now leaves store later

-- Then at each moment it held the run, with whatever was left of the log.
abbrev pub EitherRecovers : (L D C : Type 0) → Bool → (L → Files) → Bool → (D → Files) → (D → ℕ) → (D → ℕ → Files → Type 0) → Type 0
EitherRecovers L D C log_tells log_seen tells seen now leaves = (view : EngineView L D C) → RecoversPair log_tells log_seen tells seen view
    → (rules : Rules) (first : Past) → IsContent rules view first → PlanPasses rules view.tablet.core.work → IsTrue log_tells → IsTrue tells
    → (later : D) → HasEitherSince seen now leaves view.store later → LeavesOnly now leaves (HoldsWithLog log_seen rules first view) view.store.known later
