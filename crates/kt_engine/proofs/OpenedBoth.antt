-- The engine that was made of what opening found.
use Rattle.std.proofs.Common.{◌≡◌, ℕ, Bool, List, [], Some, None, true}
use Rattle.kt_disk.specs.Disk.{Files}
use Rattle.kt_history.specs.declared.target.Target.{Target}
use Rattle.kt_records.specs.declared.entry.Entry.{Entry}
use Rattle.kt_journal.specs.Open.{JournalView}
use Rattle.kt_loglaws.specs.Side.{SideView}
use Rattle.kt_content.specs.Places.{Super}
use Rattle.kt_storeside.specs.Sides.{StoreView}
use Rattle.kt_tablet.specs.Views.{View}
use Rattle.kt_engine.specs.Engines.{EngineView, IsEngine}
use Rattle.kt_engine.specs.Jobs.{UpkeepsView, no_upkeep}
use Rattle.kt_engine.specs.Stored.{IsStored}
use Rattle.kt_engine.proofs.Opened.{opened_view}
use Rattle.kt_engine.proofs.Sessions.{running_keeps}
use Rattle.kt_engine.proofs.Stored.{running_stored}

module _ {L D C : Type 0} (tells : Bool) (seen : L → Files) (now : L → ℕ) (leaves : L → ℕ → Files → Type 0) (faults : L → ℕ) (store_tells : Bool) (store_seen : D → Files) (store_faults : D → ℕ)
    (tablet : View C) (journal : JournalView L) (records : List Entry) (super : Super) (queued : List Entry) (store : StoreView D) (store_device : D) (device : L)
    (kept : View C) (log : SideView L) (found : List Entry) (read : Super) (side : StoreView D) (running : List ℕ) (upkeep : UpkeepsView) (first_file first_rowset : ℕ) (names : List Target) where
  abbrev made : EngineView L D C
  made = record { tablet = kept; log = log; records = found; super = read; device = device; store = side; store_device = store_device; running = running; upkeep = upkeep; first_file = first_file; first_rowset = first_rowset; found = names }

  -- any statement of the one is one of the other
  moved : (P : EngineView L D C → Type 0) → kept ≡ tablet → log ≡ record { home = Some journal; known = journal; holder = None; out = []; queued = queued; room = 0; whole = true; first = journal.disk } → found ≡ records → read ≡ super → side ≡ store → upkeep ≡ no_upkeep → first_file ≡ store.next_file → first_rowset ≡ store.next_rowset → names ≡ tablet.names
      → P (record (opened_view tablet journal records super queued store store_device device) { running = running }) → P made
  moved P is_tablet is_log is_found is_read is_store is_upkeep is_first is_rowset is_names h = rw (is_tablet, is_log, is_found, is_read, is_store, is_upkeep, is_first, is_rowset, is_names) h

  pub opened_both : kept ≡ tablet → log ≡ record { home = Some journal; known = journal; holder = None; out = []; queued = queued; room = 0; whole = true; first = journal.disk } → found ≡ records → read ≡ super → side ≡ store → upkeep ≡ no_upkeep → first_file ≡ store.next_file → first_rowset ≡ store.next_rowset → names ≡ tablet.names
      → IsEngine tells seen now leaves faults (opened_view tablet journal records super queued store store_device device) → IsStored tells seen store_tells store_seen store_faults (opened_view tablet journal records super queued store store_device device)
      → IsEngine tells seen now leaves faults made × IsStored tells seen store_tells store_seen store_faults made
  opened_both is_tablet is_log is_found is_read is_store is_upkeep is_first is_rowset is_names e s = (
    moved (IsEngine tells seen now leaves faults) is_tablet is_log is_found is_read is_store is_upkeep is_first is_rowset is_names (running_keeps tells seen now leaves faults (opened_view tablet journal records super queued store store_device device) running e),
    moved (IsStored tells seen store_tells store_seen store_faults) is_tablet is_log is_found is_read is_store is_upkeep is_first is_rowset is_names (running_stored tells seen store_tells store_seen store_faults (opened_view tablet journal records super queued store store_device device) s running),
  )
