use Rattle.std.proofs.Common.{refl, sym, map}
use Rattle.kt_diskrowset.specs.Rowset.{held_of}
use Rattle.kt_engine.specs.declared.upkeep.Stage.TheVariants as stage
use Rattle.kt_engine.proofs.JobBoth.{further_both}
use Rattle.kt_engine.proofs.Visiting.{visit_of, upkeep_visit}
use Rattle.kt_engine.proofs.engine.Engine.merge_swap.Goals as goal

pub swap-requires : goal.swap-requires
swap-requires g c =
    let job = rw (sym c.self.view_is) at c.requires.stage in
    record { job = (job.0, job.1.has) }

pub invariant_of-self : goal.invariant_of-self
invariant_of-self g c =
    let old = sym c.self.view_is in
    let job = rw old at c.requires.stage in
    further_both g.L.Disk.tells g.L.Disk.seen g.L.Disk.now g.L.Disk.leaves g.L.Disk.faults g.D.Disk.tells g.D.Disk.seen g.D.Disk.faults _ c.swap.new.self c.args.number job.0 (record job.0 { stage = stage.Swapped; metas = c.in_ok-outputs.outputs.metas; held = map held_of c.in_ok-outputs.outputs.rowsets; room = c.in_ok-outputs.outputs.room }) job.1.has (λ records on. record { many = on.many; names = on.names }) (c.swap.ensures.own job.0 job.1.has) (rw old at c.requires.free) c.swap.ensures.begun refl c.self.invariant

pub returns-clause-visit : goal.returns-clause-visit
returns-clause-visit g c =
    let job = rw (sym c.self.view_is) at c.requires.stage in
    visit_of _ _ _ _ c.self.view_is (upkeep_visit c.args.number _ _ c.swap.new.self (c.swap.ensures.own job.0 job.1.has))
