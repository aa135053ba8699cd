use Rattle.std.proofs.Common.{rules, ◌≡◌, ◌<◌, ◌^◌, ◌+◌, ◌++◌, ◌-◌, ℕ, Some, length, sym, ap, subst, ◌∙◌, arith, length-append}
use Rattle.kt_engine.specs.declared.again.MemsNow.{MemsNow}
use Rattle.kt_engine.specs.declared.job.JobInput.{JobInput}
use Rattle.kt_engine.specs.Columns.{ReadsMemory}
use Rattle.kt_engine.specs.Jobs.{HasUpkeep, JobView, upkeep_at}
use Rattle.kt_engine.specs.Outside.{job_again}
use Rattle.kt_engine.proofs.JobBegins.{last_is}
use Rattle.kt_engine.proofs.JobMetas.{same_job}
use Rattle.kt_engine.proofs.Lists.{some_one}
use Rattle.kt_engine.proofs.Refrozen.{again_both, as_job, frozen_inside, has_refrozen, read_again}
use Rattle.kt_engine.proofs.engine.Engine.flush_return.Goals as goal

pub split-requires : goal.split-requires
split-requires g c =
    let old = sym c.self.view_is in
    let job = rw old at c.requires.stage in
    let last : c.times-mark.result.1 ≡ c.self.inside.tablet.value.core.c = rw old at c.times-mark.ensures.last in
    let reads = subst (λ (n : ℕ). ReadsMemory c.self.inside.tablet.value n c.in_ok-inputs.inputs) last (rw old at c.in_ok-inputs.ensures.reads) in
    let same : c.in-Some.job.now.frozen ≡ job.0.frozen = ap (λ (j : JobView). j.frozen) (same_job c.in-Some.ensures.0 c.in-Some.job.now job.0 _ c.in-Some.ensures.1 job.1.has) in
    let inside = frozen_inside g.L.Disk.tells g.L.Disk.seen g.L.Disk.now g.L.Disk.leaves g.L.Disk.faults g.D.Disk.tells g.D.Disk.seen g.D.Disk.faults _ c.self.invariant c.args.number job.0 job.1.has job.1.at job.2 c.in_ok-inputs.inputs reads in
    record { inside = omega (arith, same, inside) }

-- it has frozen once more, and counts so
pub invariant_of-self-2 : goal.invariant_of-self-2
invariant_of-self-2 g c =
    let old = sym c.self.view_is in
    let known = rw old at c.requires.stage in
    let v = c.self.inside.tablet.value in
    let h = rw c.deref_mut.ensures.value at c.in_ok-freeze.ensures.frozen in
    let fits = c.in_ok-freeze.ensures.fits (h.number + 1) _ (ap (λ t. t.names) h.is) in
    let last : c.times-mark.result.1 ≡ v.core.c = rw old at c.times-mark.ensures.last in
    let marked : c.times-mark.result.0 ≡ v.core.a = rw old at c.times-mark.ensures.mark in
    let frozen : c.in-Some.job.now.frozen ≡ known.0.frozen = ap (λ (j : JobView). j.frozen) (same_job c.in-Some.ensures.0 c.in-Some.job.now known.0 _ c.in-Some.ensures.1 known.1.has) in
    let again = read_again v known.0.frozen c.in-Some.job.now.frozen c.in_ok-now.now c.in_ok-inputs.inputs c.times-mark.result.1 c.min.result c.times-mark.result.0 last marked c.min.ensures frozen (rw old at c.in_ok-inputs.ensures.reads) c.in_ok-now.ensures.now c.in_ok-now.ensures.since in
    let count = rw c.deref-2.ensures at c.count-many.ensures in
    let many : c.count-many.result ≡ c.self.inside.log.value.known.count + length (c.self.inside.log.value.out ++ c.self.inside.log.value.queued) = omega (arith, count, length-append c.self.inside.log.value.out c.self.inside.log.value.queued) in
    let number : c.last_frozen-last_mem.result ≡ h.number = last_is v c.freeze.new.self c.last_frozen-last_mem.result h (rw c.deref-3.ensures at c.last_frozen-last_mem.ensures.frozen) in
    let own = subst (λ (k : ℕ). HasUpkeep c.args.number (record (upkeep_at c.args.number c.self.inside.upkeep.passes) { job = Some (job_again c.count-many.result k c.in_ok-now.now known.0) }) c.self.inside.upkeep c.come_again.new.self) number
    (subst (λ (m : MemsNow). HasUpkeep c.args.number (record (upkeep_at c.args.number c.self.inside.upkeep.passes) { job = Some (job_again c.count-many.result c.last_frozen-last_mem.result m known.0) }) c.self.inside.upkeep c.come_again.new.self) c.of-again.ensures (c.come_again.ensures.own known.0 known.1.has)) in
    let sound = rw c.deref.ensures at c.standing.ensures.sound in
    let memory = rw c.deref.ensures at c.standing.ensures.memory in
    let calm = rw old at c.requires.calm in
    let small : c.times-mark.result.1 < 2 ^ 64 = search rules in
    let below : v.core.c < 2 ^ 64 = subst (λ (n : ℕ). n < 2 ^ 64) last small in
    let few : c.self.inside.upkeep.begun < 2 ^ 24 = search rules in
    again_both g.L.Disk.tells g.L.Disk.seen g.L.Disk.now g.L.Disk.leaves g.L.Disk.faults g.D.Disk.tells g.D.Disk.seen g.D.Disk.faults g.C.Clock.readings _ c.self.invariant sound memory below calm c.args.number known.0 known.1.has known.1.at known.2 c.in_ok-now.now again c.freeze.new.self h c.count-many.result many c.come_again.new.self own c.come_again.ensures.begun fits few

-- with all that its MemRowSets have
pub returns-clause-back : goal.returns-clause-back
returns-clause-back g c =
    let old = sym c.self.view_is in
    let known = rw old at c.requires.stage in
    let v = c.self.inside.tablet.value in
    let h = rw c.deref_mut.ensures.value at c.in_ok-freeze.ensures.frozen in
    let last : c.times-mark.result.1 ≡ v.core.c = rw old at c.times-mark.ensures.last in
    let marked : c.times-mark.result.0 ≡ v.core.a = rw old at c.times-mark.ensures.mark in
    let frozen : c.in-Some.job.now.frozen ≡ known.0.frozen = ap (λ (j : JobView). j.frozen) (same_job c.in-Some.ensures.0 c.in-Some.job.now known.0 _ c.in-Some.ensures.1 known.1.has) in
    let again = read_again v known.0.frozen c.in-Some.job.now.frozen c.in_ok-now.now c.in_ok-inputs.inputs c.times-mark.result.1 c.min.result c.times-mark.result.0 last marked c.min.ensures frozen (rw old at c.in_ok-inputs.ensures.reads) c.in_ok-now.ensures.now c.in_ok-now.ensures.since in
    let count = rw c.deref-2.ensures at c.count-many.ensures in
    let many : c.count-many.result ≡ c.self.inside.log.value.known.count + length (c.self.inside.log.value.out ++ c.self.inside.log.value.queued) = omega (arith, count, length-append c.self.inside.log.value.out c.self.inside.log.value.queued) in
    let number : c.last_frozen-last_mem.result ≡ h.number = last_is v c.freeze.new.self c.last_frozen-last_mem.result h (rw c.deref-3.ensures at c.last_frozen-last_mem.ensures.frozen) in
    let own = subst (λ (k : ℕ). HasUpkeep c.args.number (record (upkeep_at c.args.number c.self.inside.upkeep.passes) { job = Some (job_again c.count-many.result k c.in_ok-now.now known.0) }) c.self.inside.upkeep c.come_again.new.self) number
    (subst (λ (m : MemsNow). HasUpkeep c.args.number (record (upkeep_at c.args.number c.self.inside.upkeep.passes) { job = Some (job_again c.count-many.result c.last_frozen-last_mem.result m known.0) }) c.self.inside.upkeep c.come_again.new.self) c.of-again.ensures (c.come_again.ensures.own known.0 known.1.has)) in
    let sound = rw c.deref.ensures at c.standing.ensures.sound in
    let memory = rw c.deref.ensures at c.standing.ensures.memory in
    let calm = rw old at c.requires.calm in
    let small : c.times-mark.result.1 < 2 ^ 64 = search rules in
    let below : v.core.c < 2 ^ 64 = subst (λ (n : ℕ). n < 2 ^ 64) last small in
    rw old (λ job had. as_job _ _ known.0 job _ _ _ (some_one known.0 job (sym known.1.has ∙ had))
    (has_refrozen g.L.Disk.tells g.L.Disk.seen g.L.Disk.now g.L.Disk.leaves g.L.Disk.faults g.D.Disk.tells g.D.Disk.seen g.D.Disk.faults g.C.Clock.readings _ c.self.invariant sound memory below calm c.args.number known.0 known.1.has known.1.at known.2 c.in_ok-now.now again c.freeze.new.self h c.count-many.result many c.come_again.new.self own c.come_again.ensures.begun (ap (λ (i : JobInput). i.inputs.columns) c.in_ok-now.ensures.since ∙ (rw old at c.in_ok-inputs.ensures.columns))))
