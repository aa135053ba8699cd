use Rattle.std.proofs.Common.{◌≡◌, map, refl, sym, ap, ◌∙◌, subst}
use Rattle.kt_diskrowset.specs.Rowset.{store_of}
use Rattle.kt_stores.specs.Takes.{Takes}
use Rattle.kt_tablet.specs.Jobs.{MayChangeOver}
use Rattle.kt_engine.specs.Jobs.{takes_of}
use Rattle.kt_engine.specs.Upkeeps.{job_in}
use Rattle.kt_engine.proofs.NewRowsets.{all_stand, all_bare, all_empty}
use Rattle.kt_engine.proofs.JobFinish.{gives_takes, gives_stores, gives_names, gives_files, changed_is, finished_both, finish_visit}
use Rattle.kt_engine.proofs.Visiting.{visit_of}
use Rattle.kt_engine.proofs.engine.Engine.merge_finish.Goals as goal

pub finish-requires : goal.finish-requires
finish-requires g c =
    let may = rw (sym c.self.view_is) at c.requires.may in
    record { job = (may.0, may.1) }

pub leave_to-requires-clause-outputs : goal.leave_to-requires-clause-outputs
leave_to-requires-clause-outputs g c =
    rw c.deref_mut.ensures.value (record {
      stand = all_stand c.self.inside.tablet.value.pool c.in-Some.job.outputs.metas c.in-Some.job.outputs.rowsets c.into_parts-rowsets.result.0.items c.into_parts-rowsets.ensures.rowsets c.into_parts-rowsets.ensures.stand;
      bare = all_bare c.self.inside.tablet.value.pool c.in-Some.job.outputs.metas c.in-Some.job.outputs.rowsets c.into_parts-rowsets.result.0.items c.into_parts-rowsets.ensures.rowsets c.into_parts-rowsets.ensures.stand;
      none = all_empty c.self.inside.tablet.value.pool c.in-Some.job.outputs.metas c.in-Some.job.outputs.rowsets c.into_parts-rowsets.result.0.items c.into_parts-rowsets.ensures.rowsets c.into_parts-rowsets.ensures.stand;
    })

-- its outputs stand behind what it leaves
pub invariant_of-self-2 : goal.invariant_of-self-2
invariant_of-self-2 g c =
    let old = sym c.self.view_is in
    let may = rw old at c.requires.may in
    let left = c.in-Some.ensures.left may.0 may.1 in
    let job_is : job_in may.0.want c.in-Some.job ≡ may.0 = ap (job_in may.0.want) (let one : c.in-Some.job ≡ left.0 = cc in one) ∙ left.2 in
    let stand = c.into_parts-rowsets.ensures.stand in
    let changed = rw (c.deref_mut.ensures.value, c.into_parts-rowsets.ensures.rowsets, c.as_slice-taken.ensures) at c.leave_to.ensures in
    finished_both g.L.Disk.tells g.L.Disk.seen g.L.Disk.now g.L.Disk.leaves g.L.Disk.faults g.D.Disk.tells g.D.Disk.seen g.D.Disk.faults _ c.leave_to.new.tablet c.finish.new.self c.args.number may.0
    (changed_is _ c.leave_to.new.tablet _ _ _ _ _ _ _ _ (gives_takes may.0.want c.in-Some.job may.0 job_is) (gives_stores may.0.want c.in-Some.job may.0 c.self.inside.tablet.value.pool stand job_is) (gives_names may.0.want c.in-Some.job may.0 stand job_is) (gives_files may.0.want c.in-Some.job may.0 job_is) changed) (c.finish.ensures.own may.0 may.1) may.1 may.2 c.finish.ensures.begun c.self.invariant

pub leave_to-requires-clause-may : goal.leave_to-requires-clause-may
leave_to-requires-clause-may g c =
    let old = sym c.self.view_is in
    let may = rw old at c.requires.may in
    let left = c.in-Some.ensures.left may.0 may.1 in
    let job_is : job_in may.0.want c.in-Some.job ≡ may.0 = ap (job_in may.0.want) (let one : c.in-Some.job ≡ left.0 = cc in one) ∙ left.2 in
    let stand = c.into_parts-rowsets.ensures.stand in
    rw (c.deref_mut.ensures.value, c.into_parts-rowsets.ensures.rowsets, c.as_slice-taken.ensures)
    (subst (λ (t : Takes). MayChangeOver c.self.inside.tablet.value t (map (λ r. store_of r c.self.inside.tablet.value.pool) c.in-Some.job.outputs.rowsets)) (sym (gives_takes may.0.want c.in-Some.job may.0 job_is))
    (subst (MayChangeOver c.self.inside.tablet.value (takes_of may.0)) (sym (gives_stores may.0.want c.in-Some.job may.0 c.self.inside.tablet.value.pool stand job_is)) may.2.may))

pub returns-clause-visit : goal.returns-clause-visit
returns-clause-visit g c =
    let old = sym c.self.view_is in
    let may = rw old at c.requires.may in
    let left = c.in-Some.ensures.left may.0 may.1 in
    let job_is : job_in may.0.want c.in-Some.job ≡ may.0 = ap (job_in may.0.want) (let one : c.in-Some.job ≡ left.0 = cc in one) ∙ left.2 in
    let stand = c.into_parts-rowsets.ensures.stand in
    let changed = rw (c.deref_mut.ensures.value, c.into_parts-rowsets.ensures.rowsets, c.as_slice-taken.ensures) at c.leave_to.ensures in
    visit_of _ _ _ _ c.self.view_is (finish_visit g.L.Disk.tells g.L.Disk.seen g.L.Disk.now g.L.Disk.leaves g.L.Disk.faults g.D.Disk.tells g.D.Disk.seen g.D.Disk.faults _ c.leave_to.new.tablet c.finish.new.self c.args.number may.0 (changed_is _ c.leave_to.new.tablet _ _ _ _ _ _ _ _ (gives_takes may.0.want c.in-Some.job may.0 job_is) (gives_stores may.0.want c.in-Some.job may.0 c.self.inside.tablet.value.pool stand job_is) (gives_names may.0.want c.in-Some.job may.0 stand job_is) (gives_files may.0.want c.in-Some.job may.0 job_is) changed) (c.finish.ensures.own may.0 may.1))

pub returns-clause-finished : goal.returns-clause-finished
returns-clause-finished g c =
    let old = sym c.self.view_is in
    let may = rw old at c.requires.may in
    let left = c.in-Some.ensures.left may.0 may.1 in
    let job_is : job_in may.0.want c.in-Some.job ≡ may.0 = ap (job_in may.0.want) (let one : c.in-Some.job ≡ left.0 = cc in one) ∙ left.2 in
    let stand = c.into_parts-rowsets.ensures.stand in
    let changed = rw (c.deref_mut.ensures.value, c.into_parts-rowsets.ensures.rowsets, c.as_slice-taken.ensures) at c.leave_to.ensures in
    rw (sym c.self.view_is) (record { job = may.0; had = may.1; changed = (changed_is _ c.leave_to.new.tablet _ _ _ _ _ _ _ _ (gives_takes may.0.want c.in-Some.job may.0 job_is) (gives_stores may.0.want c.in-Some.job may.0 c.self.inside.tablet.value.pool stand job_is) (gives_names may.0.want c.in-Some.job may.0 stand job_is) (gives_files may.0.want c.in-Some.job may.0 job_is) changed); upkeep = c.finish.ensures.own may.0 may.1; begun = c.finish.ensures.begun; beside = refl })
