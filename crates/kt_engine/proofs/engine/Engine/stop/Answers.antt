use Rattle.std.proofs.Common.{sym, ap}
use Rattle.kt_engine.proofs.Devices.{breaks, store_breaks}
use Rattle.kt_engine.proofs.Moments.{turn_spells, turn_leaves}
use Rattle.kt_engine.proofs.Stored.{halted_stored, broken_stored, store_broken}
use Rattle.kt_engine.proofs.Visiting.{visit_of, stop_visit}
use Rattle.kt_engine.proofs.engine.Engine.stop.Goals as goal

-- with a log
pub invariant_of-self : goal.invariant_of-self
invariant_of-self g c =
    let old = sym c.self.view_is in
    let at = c.in-Log.is in
    let stops = rw c.deref_mut.ensures.value at c.stop.ensures.halted in
    let once = rw c.deref_mut.ensures.value at c.stop.ensures.once in
    let log = rw c.deref_mut-in-Log.ensures.value at c.broken.ensures in (
      breaks g.L.Disk.tells g.L.Disk.seen g.L.Disk.now g.L.Disk.leaves g.L.Disk.faults _ c.in-Log.batch.journal c.args.number c.self.invariant.0 (rw old at (c.requires.out _ at)) (rw old at (c.requires.faults _ at)) (rw old at (c.requires.rose _ at)) (rw old at (c.requires.images _ at)) (c.requires.opens _ at)
          (rw old at (c.requires.others _ at)) c.stop.new.self c.broken.new.self stops once log,
      broken_stored g.L.Disk.tells g.L.Disk.seen g.D.Disk.tells g.D.Disk.seen g.D.Disk.faults _ (halted_stored g.L.Disk.tells g.L.Disk.seen g.D.Disk.tells g.D.Disk.seen g.D.Disk.faults _ c.self.invariant.1 c.stop.new.self stops once) c.broken.new.self c.in-Log.batch.journal log,
    )

-- with the store
pub invariant_of-self-in-Store : goal.invariant_of-self-in-Store
invariant_of-self-in-Store g c =
    let old = sym c.self.view_is in
    let at = c.in-Store.is in
    let stops = rw c.deref_mut.ensures.value at c.stop.ensures.halted in
    let once = rw c.deref_mut.ensures.value at c.stop.ensures.once in
    let store = rw c.deref_mut-in-Store.ensures.value at c.come_broken.ensures in (
      store_breaks g.L.Disk.tells g.L.Disk.seen g.L.Disk.now g.L.Disk.leaves g.L.Disk.faults _ c.stop.new.self c.come_broken.new.self (ap (λ s. s.whole) store) stops once c.self.invariant.0,
      store_broken g.L.Disk.tells g.L.Disk.seen g.D.Disk.tells g.D.Disk.seen g.D.Disk.faults _ (halted_stored g.L.Disk.tells g.L.Disk.seen g.D.Disk.tells g.D.Disk.seen g.D.Disk.faults _ c.self.invariant.1 c.stop.new.self stops once) c.come_broken.new.self c.in-Store.lent.device store
          (rw old at (c.requires.store_faults _ at)),
    )

-- its turn has spelled no other superblock than the lent one
pub come_broken-requires-clause-spells : goal.come_broken-requires-clause-spells
come_broken-requires-clause-spells g c = λ told.
    let old = sym c.self.view_is in
    let side = rw c.deref.ensures at c.standing.ensures.side in
    rw (c.deref_mut-in-Store.ensures.value)
    (turn_spells g.D.Disk.tells g.D.Disk.seen g.D.Disk.now g.D.Disk.leaves g.D.Disk.faults _ side told c.in-Store.lent.next_file c.in-Store.lent.device (rw old at (c.requires.store_moments _ c.in-Store.is told)))

pub returns-in-Store-clause-visit : goal.returns-in-Store-clause-visit
returns-in-Store-clause-visit g c =
    let old = sym c.self.view_is in
    let store = rw c.deref_mut-in-Store.ensures.value at c.come_broken.ensures in
    visit_of c.args.number _ _ _ c.self.view_is
    (stop_visit c.args.number _ c.stop.new.self c.come_broken.new.self (rw c.deref_mut.ensures.value at c.stop.ensures.halted) (rw c.deref_mut.ensures.value at c.stop.ensures.once) (rw old at (c.requires.store_out _ c.in-Store.is)) (ap (λ s. s.holder) store) (ap (λ s. s.meta.schema) store) (ap (λ s. s.first) store))

-- at no moment has a crash left anything else than one of both
pub broken-requires-clause-moments : goal.broken-requires-clause-moments
broken-requires-clause-moments g c = λ told. let old = sym c.self.view_is in rw c.deref_mut-in-Log.ensures.value (rw old at (c.requires.log_moments _ c.in-Log.is told))

pub come_broken-requires-clause-moments : goal.come_broken-requires-clause-moments
come_broken-requires-clause-moments g c = λ told.
    let old = sym c.self.view_is in
    let side = rw c.deref.ensures at c.standing.ensures.side in
    rw c.deref_mut-in-Store.ensures.value
    (turn_leaves g.D.Disk.tells g.D.Disk.seen g.D.Disk.now g.D.Disk.leaves g.D.Disk.faults _ side told c.in-Store.lent.next_file c.in-Store.lent.device (rw old at (c.requires.store_moments _ c.in-Store.is told)))
