use Rattle.std.proofs.Common.{Some, refl, sym, ◌∙◌}
use Rattle.kt_engine.specs.declared.upkeep.Stage.TheVariants as stage
use Rattle.kt_engine.proofs.JobBoth.{further_both}
use Rattle.kt_engine.proofs.Visiting.{visit_of, upkeep_visit}
use Rattle.kt_engine.proofs.engine.Engine.delta_swap.Goals as goal

pub only-rowset-requires : goal.only-rowset-requires
only-rowset-requires g c =
    let gives = c.requires.rewritten c.requires.stage.0 c.requires.stage.1.has in
    record { one = (gives.d, gives.alone) }

pub take_output-requires : goal.take_output-requires
take_output-requires g c =
    let job = rw (sym c.self.view_is) at c.requires.stage in
    record { job = (job.0, job.1.has) }

pub invariant_of-self : goal.invariant_of-self
invariant_of-self g c =
    let old = sym c.self.view_is in
    let job = rw old at c.requires.stage in
    further_both g.L.Disk.tells g.L.Disk.seen g.L.Disk.now g.L.Disk.leaves g.L.Disk.faults g.D.Disk.tells g.D.Disk.seen g.D.Disk.faults _ c.take_output.new.self c.args.number job.0 (record job.0 { stage = stage.Swapped; output = Some c.only-rowset.result }) job.1.has (λ records on. record { many = on.many; names = on.names }) (c.take_output.ensures.own job.0 job.1.has) (rw old at c.requires.free) c.take_output.ensures.begun refl c.self.invariant

pub returns-clause-visit : goal.returns-clause-visit
returns-clause-visit g c =
    let job = rw (sym c.self.view_is) at c.requires.stage in
    visit_of _ _ _ _ c.self.view_is (upkeep_visit c.args.number _ _ c.take_output.new.self (c.take_output.ensures.own job.0 job.1.has))

-- it is there, alone, and its UNDO records fit
pub returns-clause-swapped : goal.returns-clause-swapped
returns-clause-swapped g c =
    rw (sym c.self.view_is) (λ job had. record {
      d = c.only-rowset.result;
      alone = c.only-rowset.ensures;
      fits = (sym c.in_ok-fit.ensures.fit ∙ c.if-not-fit.false, c.in_ok-fit.ensures.lead c.if-not-fit.false);
      later = record { upkeep = c.take_output.ensures.own job had; begun = c.take_output.ensures.begun; beside = refl };
    })
