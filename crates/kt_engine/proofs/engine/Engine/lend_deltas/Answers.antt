use Rattle.std.proofs.Common.{sym, ap}
use Rattle.kt_engine.proofs.DeltaOut.{deltas_out_as}
use Rattle.kt_engine.proofs.Outsiders.{none_is_outside}
use Rattle.kt_engine.proofs.Visiting.{visit_of, deltas_out_visit}
use Rattle.kt_engine.proofs.engine.Engine.lend_deltas.Goals as goal

-- the superblock goes out, and the DeltaMemStore of its rowset is frozen
pub invariant_of-self-2 : goal.invariant_of-self-2
invariant_of-self-2 g c =
    let old = sym c.self.view_is in
    let may = rw old at c.requires.may in
    let tablet = rw c.deref_mut.ensures.value at c.in_ok-freeze_deltas.ensures.frozen in
    let there = rw c.deref_mut.ensures.value at c.in_ok-freeze_deltas.ensures.there in
    let store = rw c.deref_mut-2.ensures.value at c.lend-lent.ensures.side in
    deltas_out_as g.L.Disk.tells g.L.Disk.seen g.L.Disk.now g.L.Disk.leaves g.L.Disk.faults g.D.Disk.tells g.D.Disk.seen g.D.Disk.now g.D.Disk.leaves g.D.Disk.faults _ c.self.invariant c.args.number may.0 may.1.0 may.1.2 c.args.rowset c.args.meta may.1.3 may.1.4 may.1.5 may.1.6
    there (rw old at c.requires.last) (rw old at c.requires.settled) (rw old at c.requires.free) (none_is_outside c.self.inside.upkeep (rw old at c.requires.inside)) (rw c.deref.ensures at c.standing.ensures.sound.stands) (rw c.deref.ensures at c.standing.ensures.named) c.publish.new.self may.1.1
    (record { upkeep = c.publish.ensures.own may.0 may.1.1; begun = c.publish.ensures.begun }) c.freeze_deltas.new.self c.lend-lent.new.self tablet store

pub publish-requires : goal.publish-requires
publish-requires g c =
    let may = rw (sym c.self.view_is) at c.requires.may in
    record { job = (may.0, may.1.1) }

-- no other pass's part has changed
pub returns-clause-visit : goal.returns-clause-visit
returns-clause-visit g c =
    let old = sym c.self.view_is in
    let may = rw old at c.requires.may in
    let tablet = rw c.deref_mut.ensures.value at c.in_ok-freeze_deltas.ensures.frozen in
    let store = rw c.deref_mut-2.ensures.value at c.lend-lent.ensures.side in
    let visit = deltas_out_visit c.args.number _ c.freeze_deltas.new.self _ c.lend-lent.new.self c.publish.new.self tablet (rw old at c.requires.home) (ap (λ s. s.holder) store) (ap (λ s. s.meta.schema) store) (ap (λ s. s.first) store) (c.publish.ensures.own may.0 may.1.1).others in
    visit_of c.args.number _ _ _ c.self.view_is visit
