use Rattle.std.proofs.Common.{◌≡◌, ◌+◌, ◌++◌, ℕ, List, Some, length, map, sym, ap, subst, ◌∙◌, arith, length-append}
use Rattle.kt_diskrowset.specs.declared.data.RowSetData.{RowSetData}
use Rattle.kt_diskrowset.specs.Data.{held_in, store_in}
use Rattle.kt_stores.specs.Takes.{files_taken}
use Rattle.kt_tablet.specs.Jobs.{taken_rowsets}
use Rattle.kt_engine.specs.Jobs.{HasUpkeep, JobView, upkeep_at}
use Rattle.kt_engine.specs.Near.{first_number}
use Rattle.kt_engine.specs.Outside.{job_back}
use Rattle.kt_engine.proofs.JobBegins.{first_is}
use Rattle.kt_engine.proofs.JobMetas.{same_job}
use Rattle.kt_engine.proofs.Leaving.{back_both, has_returned, same_stage, same_want}
use Rattle.kt_engine.proofs.Visiting.{visit_of, upkeep_visit}
use Rattle.kt_engine.proofs.engine.Engine.merge_return.Goals as goal

pub come_back-requires : goal.come_back-requires
come_back-requires g c =
    let job = rw (sym c.self.view_is) at c.requires.stage in
    record { job = (job.0, job.1.has) }

pub invariant_of-self : goal.invariant_of-self
invariant_of-self g c =
    let old = sym c.self.view_is in
    let job = rw old at c.requires.stage in
    let count = rw c.deref-2.ensures at c.count-many.ensures in
    let many : c.count-many.result ≡ c.self.inside.log.value.known.count + length (c.self.inside.log.value.out ++ c.self.inside.log.value.queued) = omega (arith, count, length-append c.self.inside.log.value.out c.self.inside.log.value.queued) in
    let last : c.active_number-last_mem.result ≡ first_number c.self.inside.tablet.value.names = first_is c.self.inside.tablet.value.names c.active_number-last_mem.result (rw c.deref-3.ensures at c.active_number-last_mem.ensures) in
    back_both g.L.Disk.tells g.L.Disk.seen g.L.Disk.now g.L.Disk.leaves g.L.Disk.faults g.D.Disk.tells g.D.Disk.seen g.D.Disk.faults _ c.self.invariant c.args.number job.0 job.1.has job.1.at job.2 c.count-many.result c.active_number-last_mem.result c.of-returned.result.value many last c.come_back.new.self (c.come_back.ensures.own job.0 job.1.has) c.come_back.ensures.begun

pub returns-clause-visit : goal.returns-clause-visit
returns-clause-visit g c =
    let job = rw (sym c.self.view_is) at c.requires.stage in
    visit_of _ _ _ _ c.self.view_is (upkeep_visit c.args.number _ _ c.come_back.new.self (c.come_back.ensures.own job.0 job.1.has))

-- it has all that its disk rowsets have now
pub returns-clause-back : goal.returns-clause-back
returns-clause-back g c =
    let old = sym c.self.view_is in
    let known = rw old at c.requires.stage in
    let count = rw c.deref-2.ensures at c.count-many.ensures in
    let many : c.count-many.result ≡ c.self.inside.log.value.known.count + length (c.self.inside.log.value.out ++ c.self.inside.log.value.queued) = omega (arith, count, length-append c.self.inside.log.value.out c.self.inside.log.value.queued) in
    let last : c.active_number-last_mem.result ≡ first_number c.self.inside.tablet.value.names = first_is c.self.inside.tablet.value.names c.active_number-last_mem.result (rw c.deref-3.ensures at c.active_number-last_mem.ensures) in
    let stores = rw c.deref.ensures at c.in_ok-list.ensures.stores in
    let files = rw c.deref.ensures at c.in_ok-list.ensures.files in
    let calm = rw old at c.requires.calm in
    rw old (λ job had.
    let taken_is : c.as_slice.result.now ≡ job.taken = c.as_slice.ensures ∙ ap (λ (j : JobView). j.taken) (same_job c.in-Some.ensures.0 c.in-Some.job.now job _ c.in-Some.ensures.1 had) in
    let own = subst (λ (l : List RowSetData). HasUpkeep c.args.number (record (upkeep_at c.args.number c.self.inside.upkeep.passes) { job = Some (job_back c.count-many.result c.active_number-last_mem.result l job) }) c.self.inside.upkeep c.come_back.new.self) c.of-returned.ensures (c.come_back.ensures.own job had) in
    has_returned g.L.Disk.tells g.L.Disk.seen g.L.Disk.now g.L.Disk.leaves g.L.Disk.faults g.D.Disk.tells g.D.Disk.seen g.D.Disk.faults _ c.self.invariant c.args.number job had (same_stage c.args.number _ (known.0, known.1) job had) (same_want c.args.number _ (known.0, known.1) known.2 job had) c.count-many.result c.active_number-last_mem.result c.of-now.result many last c.come_back.new.self own c.come_back.ensures.begun calm
    (ap (map store_in) c.of-now.ensures ∙ stores ∙ ap (λ (l : List ℕ). taken_rowsets l c.self.inside.tablet.value) taken_is) (ap (map held_in) c.of-now.ensures ∙ files ∙ ap (λ (l : List ℕ). files_taken l c.self.inside.tablet.value.files) taken_is))
