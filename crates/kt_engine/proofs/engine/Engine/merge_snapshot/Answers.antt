use Rattle.std.proofs.Common.{◌≡◌, ◌∙◌, ℕ, List, Some, refl, ap, sym, subst}
use Rattle.kt_engine.specs.declared.upkeep.Stage.TheVariants as stage
use Rattle.kt_diskrowset.specs.declared.inputs.Inputs.{Inputs}
use Rattle.kt_engine.specs.Jobs.{JobView, HasUpkeep, upkeep_at}
use Rattle.kt_engine.specs.JobSteps.{HasInput, TellAll}
use Rattle.kt_engine.proofs.JobBoth.{further_both}
use Rattle.kt_engine.proofs.JobMetas.{same_job}
use Rattle.kt_engine.proofs.Visiting.{visit_of, upkeep_visit}
use Rattle.kt_engine.proofs.engine.Engine.merge_snapshot.Goals as goal

pub read-requires : goal.read-requires
read-requires g c =
    let job = rw (sym c.self.view_is) at c.requires.stage in
    record { job = (job.0, job.1.has) }

pub invariant_of-self : goal.invariant_of-self
invariant_of-self g c =
    let old = sym c.self.view_is in
    let job = rw old at c.requires.stage in
    further_both g.L.Disk.tells g.L.Disk.seen g.L.Disk.now g.L.Disk.leaves g.L.Disk.faults g.D.Disk.tells g.D.Disk.seen g.D.Disk.faults _ c.read.new.self c.args.number job.0 (record job.0 { stage = stage.Read; bound = c.in_ok-input.input.bound; mark = c.in_ok-input.input.mark; inputs = Some c.of-inputs.result.value }) job.1.has (λ records on. record { many = on.many; names = on.names }) (c.read.ensures.own job.0 job.1.has) (rw old at c.requires.free) c.read.ensures.begun refl c.self.invariant

pub returns-clause-visit : goal.returns-clause-visit
returns-clause-visit g c =
    let job = rw (sym c.self.view_is) at c.requires.stage in
    visit_of _ _ _ _ c.self.view_is (upkeep_visit c.args.number _ _ c.read.new.self (c.read.ensures.own job.0 job.1.has))

-- what the job takes is what was read
pub returns-clause-read : goal.returns-clause-read
returns-clause-read g c =
    let old = sym c.self.view_is in
    let read = rw old at c.in_ok-input.ensures.read in
    rw old (λ job at.
    let taken_is : c.as_slice.result.now ≡ job.taken = c.as_slice.ensures ∙ ap (λ (j : JobView). j.taken) (same_job c.in-Some.ensures.0 c.in-Some.job.now job _ c.in-Some.ensures.1 at) in
    (subst (λ (l : List ℕ). HasInput c.self.inside.tablet.value l c.in_ok-input.input.inputs c.in_ok-input.input.bound c.in_ok-input.input.mark) taken_is read, record { upkeep = subst (λ (i : Inputs). HasUpkeep c.args.number (record (upkeep_at c.args.number c.self.inside.upkeep.passes) { job = Some (record job { stage = stage.Read; bound = c.in_ok-input.input.bound; mark = c.in_ok-input.input.mark; inputs = Some i }) }) c.self.inside.upkeep c.read.new.self) c.of-inputs.ensures (c.read.ensures.own job at); begun = c.read.ensures.begun; beside = refl }))

pub returns-clause-tells : goal.returns-clause-tells
returns-clause-tells g c =
    let old = sym c.self.view_is in
    let tells = rw old at c.in_ok-input.ensures.tells in
    rw old (λ job first at opens.
    let taken_is : c.as_slice.result.now ≡ job.taken = c.as_slice.ensures ∙ ap (λ (j : JobView). j.taken) (same_job c.in-Some.ensures.0 c.in-Some.job.now job _ c.in-Some.ensures.1 at) in
    subst (λ (l : List ℕ). TellAll c.self.inside.tablet.value l c.in_ok-input.input.bound c.in_ok-input.input.inputs) taken_is (tells first opens))
