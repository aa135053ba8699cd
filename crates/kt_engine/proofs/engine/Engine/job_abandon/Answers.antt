use Rattle.std.proofs.Common.{sym}
use Rattle.kt_engine.proofs.JobBoth.{abandoned_both}
use Rattle.kt_engine.proofs.Visiting.{visit_of, upkeep_visit}
use Rattle.kt_engine.proofs.engine.Engine.job_abandon.Goals as goal

pub abandon-requires : goal.abandon-requires
abandon-requires g c =
    let job = rw (sym c.self.view_is) at c.requires.stage in
    record { job = (job.0, job.1) }

pub invariant_of-self : goal.invariant_of-self
invariant_of-self g c =
    let old = sym c.self.view_is in
    let job = rw old at c.requires.stage in
    abandoned_both g.L.Disk.tells g.L.Disk.seen g.L.Disk.now g.L.Disk.leaves g.L.Disk.faults g.D.Disk.tells g.D.Disk.seen g.D.Disk.faults _ c.abandon.new.self c.args.number job.0.want (c.abandon.ensures.own job.0 job.1) (rw old at c.requires.free) c.abandon.ensures.begun c.self.invariant

pub returns-clause-visit : goal.returns-clause-visit
returns-clause-visit g c =
    let job = rw (sym c.self.view_is) at c.requires.stage in
    visit_of _ _ _ _ c.self.view_is (upkeep_visit c.args.number _ _ c.abandon.new.self (c.abandon.ensures.own job.0 job.1))
