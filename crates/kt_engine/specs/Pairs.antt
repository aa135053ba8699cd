-- Both devices of an engine at home: what a crash leaves of them where nothing waits for the log, and the superblock that is published.
use Rattle.std.specs.Prelude.{◌≡◌, ℕ, false, List, [], Some, Ok}
use Rattle.kt_disk.specs.Disk.{Files}
use Rattle.kt_history.specs.History.{Past, raise}
use Rattle.kt_records.specs.declared.entry.Entry.{Entry}
use Rattle.kt_journal.specs.Log.{log_of, IsLog}
use Rattle.kt_journal.specs.Open.{JournalView}
use Rattle.kt_histlaws.specs.Core.{Core, run_past}
use Rattle.kt_super.specs.declared.meta.Meta.{Meta}
use Rattle.kt_super.specs.Slots.{super_of}
use Rattle.kt_diskrowset.specs.Rowset.{HeldFiles}
use Rattle.kt_files.specs.Reading.{HoldAll}
use Rattle.kt_content.specs.Rules.{Rules}
use Rattle.kt_content.specs.Content.{IsContent as HoldsPast}
use Rattle.kt_reopen.specs.Both.{super_in}
use Rattle.kt_storeside.specs.Supers.{HasSuper}
use Rattle.kt_engine.specs.Logged.{PlanPasses}
use Rattle.kt_engine.specs.Engines.{EngineView, IsContent, core_from}

-- both devices of an engine are at home
pub record AreHome {L D C : Type 0} (view : EngineView L D C) (log : L) (store : D) : Type 0 where
  pub journal : JournalView L
  pub log_home : view.log.home ≡ Some journal
  pub log_is : log ≡ journal.disk
  pub store_home : view.store.home ≡ Some store

-- An image of the log and one of the store with this superblock: all records hold the opened past with all writes of the run, seen from the run's mark.
pub record HoldsAllOfBoth (rules : Rules) (core : Core) (meta : Meta) (log_image image : Files) : Type 0 where
  pub superblock : super_of image ≡ Ok (Some meta)
  pub held : List HeldFiles
  pub hold : HoldAll image meta.rowsets held
  pub records : List Entry
  pub reads : log_of log_image ≡ Ok records
  pub log : IsLog records
  pub holds : HoldsPast rules core.work.fill (super_in meta held) records core.c (raise (run_past core) core.a)

-- So it is of each pair that a crash now leaves, where nothing has stopped the engine, nothing waits for the log, and the superblock that is published has the
-- run's mark and last timestamp.
abbrev pub RecoversAllOfBoth : {L D C : Type 0} → (L → ℕ) → (L → ℕ → Files → Type 0) → (D → ℕ) → (D → ℕ → Files → Type 0) → EngineView L D C → Type 0
RecoversAllOfBoth log_now log_leaves now leaves view = (rules : Rules) (first : Past) → IsContent rules view first → PlanPasses rules view.tablet.core.work → view.tablet.core.stopped ≡ false → view.log.queued ≡ []
    → view.store.meta.a ≡ view.tablet.core.a → view.store.meta.c ≡ view.tablet.core.c → (log : _) (store : _) → AreHome view log store
    → (log_image image : Files) → log_leaves log (log_now log) log_image → leaves store (now store) image
    → HoldsAllOfBoth rules (core_from view first) view.store.meta log_image image

-- each image of a store at home has the published superblock, where nothing has stopped the run
abbrev pub LeavesPublished : {L D C : Type 0} → (D → Files) → (D → ℕ) → (D → ℕ → Files → Type 0) → EngineView L D C → Type 0
LeavesPublished seen now leaves view = view.tablet.core.stopped ≡ false → (store : _) → view.store.home ≡ Some store → (image : Files) → leaves store (now store) image → HasSuper (seen store) view.store.meta image
