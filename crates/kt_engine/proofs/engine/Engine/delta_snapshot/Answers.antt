use Rattle.std.proofs.Common.{ℕ, min, Some, refl, sym, ap, ◌∙◌, inl}
use Rattle.kt_engine.specs.Jobs.{UpkeepView}
use Rattle.kt_engine.specs.declared.upkeep.Stage.TheVariants as stage
use Rattle.kt_engine.proofs.JobBoth.{further_both}
use Rattle.kt_engine.proofs.JobCalls.{read_then}
use Rattle.kt_engine.proofs.Stored.{filed_now}
use Rattle.kt_engine.proofs.Visiting.{visit_of, upkeep_visit}
use Rattle.kt_engine.proofs.engine.Engine.delta_snapshot.Goals as goal

pub read-requires : goal.read-requires
read-requires g c =
    let job = rw (sym c.self.view_is) at c.requires.stage in
    record { job = (job.0, job.1.has) }

pub read_deltas-requires-2 : goal.read_deltas-requires-2
read_deltas-requires-2 g c =
    let job = rw (sym c.self.view_is) at c.requires.stage in
    record { job = (record job.0 { stage = stage.Read; bound = c.times-a.result.1; mark = c.min-mark.result; inputs = Some c.of.result.value }, ap (λ (u : UpkeepView). u.job) (c.read.ensures.own job.0 job.1.has).own) }

pub invariant_of-self : goal.invariant_of-self
invariant_of-self g c =
    let old = sym c.self.view_is in
    let job = rw old at c.requires.stage in
    let own = read_then c.args.number c.times-a.result.1 c.min-mark.result c.in_ok-rowset.dms job.0 c.of.result.value c.of.result.value c.of-read.result.value c.of-read.result.value c.self.inside.upkeep c.read.new.self c.read_deltas-2.new.self (c.read.ensures.own job.0 job.1.has) c.read_deltas-2.ensures.own refl refl in
    further_both g.L.Disk.tells g.L.Disk.seen g.L.Disk.now g.L.Disk.leaves g.L.Disk.faults g.D.Disk.tells g.D.Disk.seen g.D.Disk.faults _ c.read_deltas-2.new.self c.args.number job.0 (record job.0 { stage = stage.Read; bound = c.times-a.result.1; mark = c.min-mark.result; inputs = Some c.of.result.value; dms = c.in_ok-rowset.dms; read = Some c.of-read.result.value }) job.1.has (λ records on. record { many = on.many; names = on.names }) own (rw old at c.requires.free)
    (c.read_deltas-2.ensures.begun.0 ∙ c.read.ensures.begun.0, c.read_deltas-2.ensures.begun.1 ∙ c.read.ensures.begun.1) refl c.self.invariant

pub returns-clause-visit : goal.returns-clause-visit
returns-clause-visit g c =
    let job = rw (sym c.self.view_is) at c.requires.stage in
    visit_of _ _ _ _ c.self.view_is (upkeep_visit c.args.number _ _ c.read_deltas-2.new.self (read_then c.args.number c.times-a.result.1 c.min-mark.result c.in_ok-rowset.dms job.0 c.of.result.value c.of.result.value c.of-read.result.value c.of-read.result.value c.self.inside.upkeep c.read.new.self c.read_deltas-2.new.self (c.read.ensures.own job.0 job.1.has) c.read_deltas-2.ensures.own refl refl))

-- it is all that the tablet has of the rowset, and the files that memory has are those of the published superblock
pub returns-clause-read : goal.returns-clause-read
returns-clause-read g c =
    let old = sym c.self.view_is in
    let last = rw old at c.times-a.ensures.last in
    let mark = rw old at c.times-a.ensures.mark in
    let held = rw old at c.in_ok-rowset.ensures.held in
    rw old (λ job had. record {
      d = c.in_ok-rowset.rowset;
      dms = c.in_ok-rowset.dms;
      alone = (c.in_ok-inputs.ensures.mems, c.in_ok-inputs.ensures.rowsets);
      times = (last, c.min-mark.ensures ∙ ap (λ (n : ℕ). min c.times-a.result.1 n) mark);
      is = (rw old at c.in_ok-rowset.ensures.read) job had;
      held = held;
      filed = filed_now g.L.Disk.tells g.L.Disk.seen g.D.Disk.tells g.D.Disk.seen g.D.Disk.faults _ c.self.invariant.1 (rw old at c.requires.free) _ (inl refl) _ _ held;
      later = record {
        upkeep = read_then c.args.number c.times-a.result.1 c.min-mark.result c.in_ok-rowset.dms job c.in_ok-inputs.inputs c.of.result.value c.in_ok-rowset.rowset c.of-read.result.value c.self.inside.upkeep c.read.new.self c.read_deltas-2.new.self (c.read.ensures.own job had) c.read_deltas-2.ensures.own c.of.ensures c.of-read.ensures;
        begun = (c.read_deltas-2.ensures.begun.0 ∙ c.read.ensures.begun.0, c.read_deltas-2.ensures.begun.1 ∙ c.read.ensures.begun.1);
        beside = refl;
      };
    })
