use Rattle.std.proofs.Common.{refl, sym, ap, ◌∙◌, subst}
use Rattle.kt_engine.specs.Engines.{EngineView}
use Rattle.kt_engine.specs.Stored.{IsStored}
use Rattle.kt_engine.proofs.Devices.{store_keeps, both_whole}
use Rattle.kt_engine.proofs.Outsiders.{none_is_outside}
use Rattle.kt_engine.proofs.StoreEvents.{lent_stored}
use Rattle.kt_engine.proofs.StorePurposes.{lent_is_next, publishes_settled, may_publish}
use Rattle.kt_engine.proofs.Visiting.{visit_of, turn_out_visit}
use Rattle.kt_engine.proofs.Within.{job_within}
use Rattle.kt_engine.proofs.engine.Engine.lend_out.Goals as goal

pub invariant_of-self : goal.invariant_of-self
invariant_of-self g c =
    let old = sym c.self.view_is in
    let store = rw c.deref_mut.ensures.value at c.lend.ensures.side in
    let side = rw c.deref-2.ensures at c.standing-2.ensures.side in
    let meta = rw old at c.in_ok-meta.ensures.meta in (
      store_keeps g.L.Disk.tells g.L.Disk.seen g.L.Disk.now g.L.Disk.leaves g.L.Disk.faults _ c.lend.new.self (ap (λ s. s.whole) store) c.self.invariant.0,
      lent_stored g.L.Disk.tells g.L.Disk.seen g.D.Disk.tells g.D.Disk.seen g.D.Disk.now g.D.Disk.leaves g.D.Disk.faults _ c.self.invariant.1 side c.lend.new.self c.args.number c.in_ok-meta.meta store (lent_is_next c.args.number c.args.purpose _ c.in_ok-meta.meta meta (rw old at (c.is_of_job.ensures.no c.if-is_of_job.false)))
          (λ m is. let rest = (rw old at c.requires.settled) (publishes_settled c.args.number c.args.purpose _ c.in_ok-meta.meta meta m is) in (rest.0, rest.1, (rw old at c.requires.free) (publishes_settled c.args.number c.args.purpose _ c.in_ok-meta.meta meta m is)))
          (λ m is. none_is_outside c.self.inside.upkeep ((rw old at c.requires.inside) (publishes_settled c.args.number c.args.purpose _ c.in_ok-meta.meta meta m is))) (rw c.deref.ensures at c.standing.ensures.sound.stands),
    )

-- the superblock of a job lies within the bounds of the store
pub meta_for-requires : goal.meta_for-requires
meta_for-requires g c =
    let is = subst (λ (v : EngineView _ _ _). IsStored g.L.Disk.tells g.L.Disk.seen g.D.Disk.tells g.D.Disk.seen g.D.Disk.faults v) c.self.view_is c.self.invariant.1 in
    record {
      job = λ job goes has next small. (let may = c.requires.job job goes has in may.lent next small (job_within c.args.self.now job is.run c.args.self.now.store.first.most is.room is.near may.takes may.named may.first_dms next.within));
    }

-- what goes out may be published
pub returns-clause-ready : goal.returns-clause-ready
returns-clause-ready g c =
    let old = sym c.self.view_is in
    let side = rw c.deref-2.ensures at c.standing-2.ensures.side in
    let known = rw c.deref_mut.ensures.value at c.lend.ensures.device.1 in
    let meta = rw old at c.in_ok-meta.ensures.meta in
    may_publish g.D.Disk.tells g.D.Disk.seen g.D.Disk.now g.D.Disk.leaves g.D.Disk.faults _ side c.lend.result.device c.in_ok-meta.meta c.lend.result.meta known c.lend.ensures.meta (rw old at c.in_ok-meta.ensures.lent)

-- a tablet that goes on has its store whole
pub lend-requires-clause-whole : goal.lend-requires-clause-whole
lend-requires-clause-whole g c =
    let goes = rw (sym c.self.view_is) at c.requires.goes in
    rw c.deref_mut.ensures.value (both_whole c.self.inside.log.value.whole c.self.inside.store.value.whole (sym goes ∙ c.self.invariant.0.whole)).1

pub lend-requires-clause-lent : goal.lend-requires-clause-lent
lend-requires-clause-lent g c =
    let old = sym c.self.view_is in
    rw c.deref_mut.ensures.value (rw old at c.in_ok-meta.ensures.lent)

-- of a pass with a job
pub returns-then-is_of_job-clause-publishes : goal.returns-then-is_of_job-clause-publishes
returns-then-is_of_job-clause-publishes g c = λ job m new had. c.lend_of_job.ensures.lent job m had (sym c.lend_of_job.ensures.meta ∙ new)

pub returns-then-is_of_job-clause-ready : goal.returns-then-is_of_job-clause-ready
returns-then-is_of_job-clause-ready g c =
    let old = sym c.self.view_is in
    let side = rw c.deref-2.ensures at c.standing-2.ensures.side in
    may_publish g.D.Disk.tells g.D.Disk.seen g.D.Disk.now g.D.Disk.leaves g.D.Disk.faults _ side c.lend_of_job.result.device c.in_ok-meta.meta c.lend_of_job.result.meta (rw old at c.lend_of_job.ensures.device.1) c.lend_of_job.ensures.meta (rw old at c.in_ok-meta.ensures.lent)

-- no other pass's part has changed
pub returns-clause-visit : goal.returns-clause-visit
returns-clause-visit g c =
    let store = rw c.deref_mut.ensures.value at c.lend.ensures.side in
    visit_of c.args.number _ _ _ c.self.view_is
    (turn_out_visit c.args.number _ c.lend.new.self c.self.inside.upkeep (rw (sym c.self.view_is) at c.requires.home) (ap (λ s. s.holder) store) (ap (λ s. s.meta.schema) store) (ap (λ s. s.first) store) (λ k ne. refl))

pub returns-then-is_of_job-clause-visit : goal.returns-then-is_of_job-clause-visit
returns-then-is_of_job-clause-visit g c = c.lend_of_job.ensures.visit
