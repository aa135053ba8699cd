-- An engine may go to another thread where its devices and its clock may, and threads may then share it in its lock.
use denote.RattleType.{RattleType}
use denote.Param.Send.{IsSend, IsSync, view_send, recorded_send, recorded_sync, struct_send, struct_sync, plain_send, sendable}
use denote.Struct.Declared.{shape}
use denote.Struct.Struct.{Struct}
use denote.Struct.Tuple.{TupleAt, type_at}
use mathlib.Core.List.{[], ◌∷◌}
use mir.Syntax.{Sym}
use Rattle.std.proofs.Crossing.{crosses, Box-send, Vec-send}
use Rattle.kt_base.specs.declared.outside.Clock as Clock
use Rattle.kt_base.proofs.cell.Cells.TheSendSync as cells
use Rattle.kt_mvcc.proofs.flight.Flight.TheSendSync as flight
use Rattle.kt_records.proofs.entry.Entry.TheSendSync as entry
use Rattle.kt_journal.proofs.journal.Journal.TheSendSync as journal
use Rattle.kt_history.specs.declared.row_store.RowStore as RowStore
use Rattle.kt_views.specs.declared.view_store.StoreRows as StoreRows
use Rattle.kt_disk.specs.declared.disk.Disk as Disk
use Rattle.kt_tablet.specs.contracts.tablet.Tablet as Tablet
use Rattle.kt_tablet.specs.contracts.tablet.Tablet.TheInside as Inside
use Rattle.kt_tablet.proofs.tablet.FlyingWrite.TheSendSync as flying
use Rattle.kt_loglaws.specs.contracts.side.LogSide as LogSide
use Rattle.kt_loglaws.specs.contracts.side.LogSide.TheInside as Side
use Rattle.kt_super.proofs.meta.Meta.TheSendSync as meta
use Rattle.kt_storeside.specs.contracts.side.StoreSide as StoreSide
use Rattle.kt_storeside.specs.contracts.side.StoreSide.TheInside as Kept
use Rattle.kt_engine.specs.contracts.engine.Engine as Engine
use Rattle.kt_engine.specs.contracts.engine.Engine.TheInside as Within
use Rattle.kt_engine.proofs.running.Running.TheSendSync as running
use Rattle.kt_engine.proofs.outputs.JobOutputs.TheSendSync as outputs
use Rattle.kt_engine.proofs.upkeep.Stage.TheSendSync as stage
use Rattle.kt_engine.proofs.upkeep.Last.TheSendSync as last
use Rattle.kt_engine.specs.contracts.upkeep.Job as Job
use Rattle.kt_engine.specs.contracts.upkeep.Upkeep as Upkeep
use Rattle.kt_engine.specs.contracts.upkeep.Upkeeps as Upkeeps
use Rattle.kt_engine.specs.contracts.upkeep.Upkeeps.TheInside as Passes
use Rattle.kt_memrowset.proofs.store.MemRowSet.TheSendSync as rows
use Rattle.kt_stores.specs.declared.file_store.FileStore as FileStore
use Rattle.kt_stores.specs.contracts.file_store.DiskRowSetFileStore.TheImpl.{ghosts as files}
use Rattle.kt_stores.proofs.range_tree.RangeTree.TheSendSync as ranges
use Rattle.kt_stores.specs.contracts.stores.Stores as Stores
use Rattle.kt_stores.specs.contracts.stores.Stores.TheInside as Shelf
use Rattle.kt_seatlock.proofs.lock.SeatLock.TheSendSync as lock
use Rattle.kt_history.specs.contracts.event.Event as Event
use Rattle.kt_engine.specs.contracts.shared.Part as Part
use Rattle.kt_serve.specs.contracts.tablet.SharedTablet as SharedTablet
use Rattle.kt_pick.proofs.rules.Want.TheSendSync as want
use Rattle.kt_policy.proofs.candidate.IdList.TheSendSync as ids
use Rattle.kt_diskrowset.proofs.data.RowSetData.TheSendSync as rowset_data
use Rattle.kt_diskrowset.proofs.rowset.DiskRowSet.TheSendSync as rowset
use Rattle.kt_diskrowset.specs.contracts.row_store.DiskRowSetRowStore.TheImpl.{ghosts as stored}
use Rattle.kt_diskrowset.specs.contracts.view.RowSetView.{the_row as view_row}
use Rattle.kt_diskrowset.specs.contracts.view.RowSetViewStoreRows.TheImpl.{ghosts as told}

module _ (R V : RattleType) (f : FileStore.Ghosts R.Denot V.Denot) (g : RowStore.Ghosts R.Denot) (t : StoreRows.Ghosts V.Denot) where
  pub stores_send : IsSend R → IsSend (Stores.the_row R V f g t)
  stores_send r = view_send (Shelf.the_row R V f g t) _ _ _ _ (recorded_send (Shelf.the_field R V f g t).row _ _ (Shelf.the_type R V f g t).to_one (struct_send (shape (Shelf.the_type R V f g t)) (search (sendable, crosses) depth 20, (search (sendable, crosses, rows.the_send) depth 20, (search (sendable, crosses, rows.the_send) depth 20, (Vec-send _ r, (ranges.the_send, tt)))))))

module _ (S C V : RattleType) (f : FileStore.Ghosts S.Denot V.Denot) (g : RowStore.Ghosts S.Denot) (t : StoreRows.Ghosts V.Denot) (h : Clock.Ghosts C.Denot) where
  pub tablet_send : IsSend S → IsSend C → IsSend (Tablet.the_row S C V f g t h)
  tablet_send s c = view_send (Inside.the_row S C V f g t h) _ _ _ _ (recorded_send (Inside.the_field S C V f g t h).row _ _ (Inside.the_type S C V f g t h).to_one (struct_send (shape (Inside.the_type S C V f g t h)) (
    stores_send S V f g t s,
    (
      c,
      (
        flight.the_send,
        (
          Vec-send _ flying.the_send,
          (
            search (sendable, crosses) depth 20,
            (
              search (sendable, crosses) depth 20,
              (
                plain_send _ _ _ _ _,
                (
                  plain_send _ _ _ _ _,
                  (
                    cells.the_send,
                    (search (sendable, crosses), (search (sendable, crosses), (search (sendable, crosses), (search (sendable, crosses), (plain_send _ _ _ _ _, (plain_send _ _ _ _ _, tt)))))),
                  ),
                ),
              ),
            ),
          ),
        ),
      ),
    ),
  )))

module _ (L : RattleType) (g : Disk.Ghosts L.Denot) where
  pub side_send : IsSend L → IsSend (LogSide.the_row L g)
  side_send l = view_send (Side.the_row L g) _ _ _ _ (recorded_send (Side.the_field L g).row _ _ (Side.the_type L g).to_one (struct_send (shape (Side.the_type L g))
      (search (sendable, crosses, journal.the_send, l) depth 20, (plain_send _ _ _ _ _, (plain_send _ _ _ _ _, (plain_send _ _ _ _ _, (plain_send _ _ _ _ _, (Vec-send _ entry.the_send, (Vec-send _ entry.the_send, (plain_send _ _ _ _ _, (search (sendable, crosses), (search (sendable, crosses), (search (sendable, crosses), tt)))))))))))))

module _ (D : RattleType) (g : Disk.Ghosts D.Denot) where
  pub store_send : IsSend D → IsSend (StoreSide.the_row D g)
  store_send d = view_send (Kept.the_row D g) _ _ _ _ (recorded_send (Kept.the_field D g).row _ _ (Kept.the_type D g).to_one (struct_send (shape (Kept.the_type D g))
      (search (sendable, crosses, d) depth 20, (plain_send _ _ _ _ _, (plain_send _ _ _ _ _, (meta.the_field_send, (plain_send _ _ _ _ _, (plain_send _ _ _ _ _, (search (sendable, crosses), (search (sendable, crosses), (search (sendable, crosses), (plain_send _ _ _ _ _, (search (sendable, crosses), (search (sendable, crosses), (search (sendable, crosses), tt)))))))))))))))

-- what passes have of maintenance, and their jobs
job_send : IsSend Job.the_row
job_send = recorded_send (Job.the_field).row _ _ (Job.the_type).to_one (struct_send (shape Job.the_type) (
  plain_send _ _ _ _ _,
  (
    stage.the_field_send,
    (
      plain_send _ _ _ _ _,
      (
        plain_send _ _ _ _ _,
        (
          ids.the_send,
          (
            plain_send _ _ _ _ _,
            (
              plain_send _ _ _ _ _,
              (
                plain_send _ _ _ _ _,
                (
                  plain_send _ _ _ _ _,
                  (search (sendable, crosses), (outputs.the_send, (plain_send _ _ _ _ _, (plain_send _ _ _ _ _, (plain_send _ _ _ _ _, (search (sendable, crosses), (search (sendable, crosses), (plain_send _ _ _ _ _, (search (sendable, crosses), (search (sendable, crosses, rowset_data.the_send) depth 8, tt)))))))))),
                ),
              ),
            ),
          ),
        ),
      ),
    ),
  ),
))

upkeep_send : IsSend Upkeep.the_row
upkeep_send = recorded_send (Upkeep.the_field).row _ _ (Upkeep.the_type).to_one (struct_send (shape Upkeep.the_type) (
  plain_send _ _ _ _ _,
  (
    plain_send _ _ _ _ _,
    (
      last.the_field_send,
      (
        want.the_field_send,
        (
          search (sendable, crosses) depth 20,
          (
            plain_send _ _ _ _ _,
            (
              Vec-send _ want.the_send,
              (search (sendable, crosses, job_send) depth 8, (search (sendable, crosses), (search (sendable, crosses), tt))),
            ),
          ),
        ),
      ),
    ),
  ),
))

passes_send : IsSend Upkeeps.the_row
passes_send = view_send Passes.the_row _ _ _ _ (recorded_send (Passes.the_field).row _ _ (Passes.the_type).to_one (struct_send (shape Passes.the_type)
    (Vec-send _ upkeep_send, (plain_send _ _ _ _ _, (search (sendable, crosses), tt)))))

module _ (L D C : RattleType) (g : Disk.Ghosts L.Denot) (k : Disk.Ghosts D.Denot) (h : Clock.Ghosts C.Denot) where
  pub engine_send : IsSend L → IsSend D → IsSend C → IsSend (Engine.the_row L D C g k h)
  engine_send l d c = view_send (Within.the_row L D C g k h) _ _ _ _ (recorded_send (Within.the_field L D C g k h).row _ _ (Within.the_type L D C g k h).to_one (struct_send (shape (Within.the_type L D C g k h))
      (Box-send _ (tablet_send _ C view_row files stored told h rowset.the_send c), (Box-send _ (side_send L g l), (Box-send _ (store_send D k d), (running.the_send, (search (sendable, crosses), (search (sendable, crosses), (search (sendable, crosses), (search (sendable, crosses), (passes_send, (plain_send _ _ _ _ _, (plain_send _ _ _ _ _, (search (sendable, crosses), tt))))))))))))))

  pub shared_sync : IsSend L → IsSend D → IsSend C → IsSync (SharedTablet.the_row L D C g k h)
  shared_sync l d c = recorded_sync (SharedTablet.the_field L D C g k h).row _ _ (SharedTablet.the_type L D C g k h).to_one (struct_sync (shape (SharedTablet.the_type L D C g k h)) (lock.the_field_sync (Engine.the_row L D C g k h) Event.the_row (Part.the_row L D C g k h) _ (engine_send l d c), tt))

-- a closure of seven captures may be shared where each of them may
pub captured_sync : (ν : Sym) (R S T U V W X : RattleType) → IsSync R → IsSync S → IsSync T → IsSync U → IsSync V → IsSync W → IsSync X → IsSync (TupleAt ν (R ∷ S ∷ T ∷ U ∷ V ∷ W ∷ X ∷ []))
captured_sync ν R S T U V W X r s t u v w x = let all = type_at ν (R ∷ S ∷ T ∷ U ∷ V ∷ W ∷ X ∷ []) in recorded_sync (Struct (shape all)) _ _ all.to_one (struct_sync (shape all) (r, (s, (t, (u, (v, (w, (x, tt))))))))
