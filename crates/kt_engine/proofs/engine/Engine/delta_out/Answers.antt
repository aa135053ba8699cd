use Rattle.std.proofs.Common.{refl, sym, inl}
use Rattle.kt_engine.specs.Files.{AreFiled}
use Rattle.kt_engine.proofs.DeltaReady.{ready_of}
use Rattle.kt_engine.proofs.DeltaShapes.{names_of}
use Rattle.kt_engine.proofs.DeltaStay.{stays_of, lent_of}
use Rattle.kt_engine.proofs.Stored.{filed_now}
use Rattle.kt_engine.proofs.engine.Engine.delta_out.Goals as goal

-- what goes out may be published
pub returns-clause-ready : goal.returns-clause-ready
returns-clause-ready g c =
    let old = sym c.self.view_is in
    let side = rw c.deref.ensures at c.standing.ensures.side in
    ready_of g.D.Disk.tells g.D.Disk.seen g.D.Disk.now g.D.Disk.leaves g.D.Disk.faults _ side c.in_ok-meta.meta (rw old at c.in_ok-meta.ensures.lent) c.lend_deltas.result (rw old at c.lend_deltas.ensures.device) c.lend_deltas.ensures.meta

-- and names at most one REDO file of the rowset of a compaction
pub returns-clause-names : goal.returns-clause-names
returns-clause-names g c =
    let may = c.requires.may in
    names_of c.args.self.now c.args.number may.0 may.1.0 c.in_ok-meta.meta may.1.1 may.1.2.shape (c.in_ok-meta.ensures.meta may.0 may.1.0 may.1.1 may.1.2.output).0 c.lend_deltas.result c.lend_deltas.ensures.meta

-- and leaves those files that the want leaves
pub returns-clause-stay : goal.returns-clause-stay
returns-clause-stay g c =
    let may = c.requires.may in
    let old = sym c.self.view_is in
    let filed : AreFiled g.D.Disk.tells (g.D.Disk.seen c.args.self.now.store.known) c.args.self.now.store.meta.rowsets c.args.self.now.tablet.files =
    rw old (filed_now g.L.Disk.tells g.L.Disk.seen g.D.Disk.tells g.D.Disk.seen g.D.Disk.faults _ c.self.invariant.1 (rw old at c.requires.free) _ (inl refl)) in
    stays_of g.D.Disk.tells (g.D.Disk.seen c.args.self.now.store.known) c.args.self.now c.args.number may.0 may.1.0 c.in_ok-meta.meta may.1.1 may.1.2.output may.1.2.stay filed (c.in_ok-meta.ensures.meta may.0 may.1.0 may.1.1 may.1.2.output).0 c.lend_deltas.result c.lend_deltas.ensures.meta

-- its number is that of the job from now on
pub returns-clause-publishes : goal.returns-clause-publishes
returns-clause-publishes g c = lent_of _ _ c.args.number c.in_ok-meta.meta c.lend_deltas.result c.lend_deltas.ensures.meta c.lend_deltas.ensures.lent
