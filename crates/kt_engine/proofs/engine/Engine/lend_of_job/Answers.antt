use Rattle.std.proofs.Common.{ℕ, Some, sym, ap, subst, ◌∙◌}
use Rattle.kt_engine.specs.declared.upkeep.Stage.TheVariants.{Publishing}
use Rattle.kt_engine.specs.Jobs.{HasUpkeep, upkeep_at}
use Rattle.kt_engine.proofs.Devices.{store_keeps}
use Rattle.kt_engine.proofs.JobOut.{job_lent_as}
use Rattle.kt_engine.proofs.Outsiders.{none_is_outside}
use Rattle.kt_engine.proofs.Upkeeps.{upkeep_keeps}
use Rattle.kt_engine.proofs.Visiting.{visit_of, turn_out_visit}
use Rattle.kt_engine.proofs.engine.Engine.lend_of_job.Goals as goal

-- the superblock goes out with the job's outputs, and the engine stands under it
pub invariant_of-self : goal.invariant_of-self
invariant_of-self g c =
    let old = sym c.self.view_is in
    let store = rw c.deref_mut.ensures.value at c.lend-lent.ensures.side in
    let side = rw c.deref-2.ensures at c.standing-2.ensures.side in
    let job = rw old at c.requires.job in
    -- the number of what goes out is the next one
    let number = c.number_in-superblock.ensures _ job.3 in
    let lent = subst (λ (k : ℕ). HasUpkeep c.args.number (record (upkeep_at c.args.number c.self.inside.upkeep.passes) { job = Some (record job.0 { stage = Publishing; super = k }) }) c.self.inside.upkeep c.publish.new.self) number (c.publish.ensures.own job.0 job.1) in (
      upkeep_keeps g.L.Disk.tells g.L.Disk.seen g.L.Disk.now g.L.Disk.leaves g.L.Disk.faults _ c.publish.new.self (λ none. sym c.publish.ensures.begun.0 ∙ none)
          (store_keeps g.L.Disk.tells g.L.Disk.seen g.L.Disk.now g.L.Disk.leaves g.L.Disk.faults _ c.lend-lent.new.self (ap (λ s. s.whole) store) c.self.invariant.0),
      job_lent_as g.L.Disk.tells g.L.Disk.seen g.D.Disk.tells g.D.Disk.seen g.D.Disk.now g.D.Disk.leaves g.D.Disk.faults _ c.self.invariant.1 side c.args.number job.0 c.publish.new.self job.1 job.2
          (rw old at c.requires.settled) (rw old at c.requires.free) (none_is_outside c.self.inside.upkeep (rw old at c.requires.inside)) (rw c.deref.ensures at c.standing.ensures.sound.stands) (rw c.deref.ensures at c.standing.ensures.named) c.self.invariant.0.ready.shelved (record { upkeep = lent; begun = c.publish.ensures.begun }) c.lend-lent.new.self c.args.meta job.3 store,
    )

pub publish-requires : goal.publish-requires
publish-requires g c =
    let job = rw (sym c.self.view_is) at c.requires.job in
    record { job = (job.0, job.1) }

pub lend-lent-requires-clause-lent : goal.lend-lent-requires-clause-lent
lend-lent-requires-clause-lent g c = rw c.deref_mut.ensures.value (rw (sym c.self.view_is) at c.requires.lent)

pub returns-clause-visit : goal.returns-clause-visit
returns-clause-visit g c =
    let old = sym c.self.view_is in
    let store = rw c.deref_mut.ensures.value at c.lend-lent.ensures.side in
    let job = rw old at c.requires.job in
    visit_of c.args.number _ _ _ c.self.view_is
    (turn_out_visit c.args.number _ c.lend-lent.new.self c.publish.new.self (rw old at c.requires.home) (ap (λ s. s.holder) store) (ap (λ s. s.meta.schema) store) (ap (λ s. s.first) store) (c.publish.ensures.own job.0 job.1).others)
