use Rattle.std.proofs.Common.{◌≡◌, ℕ, Some, refl, sym, subst}
use Rattle.kt_engine.specs.Jobs.{HasUpkeep, upkeep_at}
use Rattle.kt_engine.specs.Outside.{job_out}
use Rattle.kt_engine.proofs.Leaving.{goes_outside, leaves_by, left_both}
use Rattle.kt_engine.proofs.Visiting.{visit_of, upkeep_visit}
use Rattle.kt_engine.proofs.engine.Engine.job_leave.Goals as goal

pub go_out-requires : goal.go_out-requires
go_out-requires g c =
    let job = rw (sym c.self.view_is) at c.requires.stage in
    record { job = (job.0, job.1.has) }

-- what it takes has what was read, and nothing behind
pub invariant_of-self : goal.invariant_of-self
invariant_of-self g c =
    let old = sym c.self.view_is in
    let job = rw old at c.requires.stage in
    let count : c.frozen-frozen.result ≡ c.self.inside.tablet.value.frozen = rw c.deref-2.ensures at c.frozen-frozen.ensures in
    let own = subst (λ (k : ℕ). HasUpkeep c.args.number (record (upkeep_at c.args.number c.self.inside.upkeep.passes) { job = Some (job_out k job.0) }) c.self.inside.upkeep c.go_out.new.self) count (c.go_out.ensures.own job.0 job.1.has) in
    left_both g.L.Disk.tells g.L.Disk.seen g.L.Disk.now g.L.Disk.leaves g.L.Disk.faults g.D.Disk.tells g.D.Disk.seen g.D.Disk.faults _ c.self.invariant c.args.number job.0 job.1.has c.go_out.new.self own (rw old at c.requires.free) c.go_out.ensures.begun
    (leaves_by _ _ job.0 (rw old at c.requires.free) (rw old at c.requires.unlent) (rw old at c.requires.begun)
    (λ merges. goes_outside g.L.Disk.tells g.L.Disk.seen g.D.Disk.tells g.D.Disk.seen g.D.Disk.faults g.C.Clock.readings _ c.self.invariant.1 (rw c.deref.ensures at c.standing.ensures.sound) (rw c.deref.ensures at c.standing.ensures.memory) c.self.invariant.0.ready.shelved (rw c.deref.ensures at c.standing.ensures.named)
    (rw c.deref.ensures at c.standing.ensures.noted) (rw old at c.requires.calm) (rw old at c.requires.free) (rw old at c.requires.unlent) (rw old at c.requires.begun) c.args.number job.0 job.1.has merges.0 merges.1) job.0.want refl job.2)

pub returns-clause-visit : goal.returns-clause-visit
returns-clause-visit g c =
    let job = rw (sym c.self.view_is) at c.requires.stage in
    visit_of _ _ _ _ c.self.view_is (upkeep_visit c.args.number _ _ c.go_out.new.self (c.go_out.ensures.own job.0 job.1.has))

pub returns-clause-left : goal.returns-clause-left
returns-clause-left g c =
    let old = sym c.self.view_is in
    let count : c.frozen-frozen.result ≡ c.self.inside.tablet.value.frozen = rw c.deref-2.ensures at c.frozen-frozen.ensures in
    rw old (λ job had. record {
      upkeep = subst (λ (k : ℕ). HasUpkeep c.args.number (record (upkeep_at c.args.number c.self.inside.upkeep.passes) { job = Some (job_out k job) }) c.self.inside.upkeep c.go_out.new.self) count (c.go_out.ensures.own job had);
      begun = c.go_out.ensures.begun;
      beside = refl;
    })
