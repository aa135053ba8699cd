use Rattle.std.proofs.Common.{Some, sym, subst}
use Rattle.kt_diskrowset.specs.declared.data.RowSetData.{RowSetData}
use Rattle.kt_engine.specs.declared.upkeep.Stage.TheVariants as stage
use Rattle.kt_engine.specs.Jobs.{HasUpkeep, upkeep_at}
use Rattle.kt_engine.proofs.Leaving.{has_reread, reread_both, same_stage}
use Rattle.kt_engine.proofs.Outsiders.{same_rewrites}
use Rattle.kt_engine.proofs.Visiting.{visit_of, upkeep_visit}
use Rattle.kt_engine.proofs.engine.Engine.delta_return.Goals as goal

pub read_deltas-requires-2 : goal.read_deltas-requires-2
read_deltas-requires-2 g c =
    let job = rw (sym c.self.view_is) at c.requires.stage in
    record { job = (job.0, job.1.has) }

pub invariant_of-self : goal.invariant_of-self
invariant_of-self g c =
    let old = sym c.self.view_is in
    let job = rw old at c.requires.stage in
    reread_both g.L.Disk.tells g.L.Disk.seen g.L.Disk.now g.L.Disk.leaves g.L.Disk.faults g.D.Disk.tells g.D.Disk.seen g.D.Disk.faults _ c.self.invariant c.args.number job.0 job.1.has job.1.at job.2 c.in_ok-rowset.dms c.of-read.result.value c.read_deltas-2.new.self (c.read_deltas-2.ensures.own job.0 job.1.has) c.read_deltas-2.ensures.begun

pub returns-clause-visit : goal.returns-clause-visit
returns-clause-visit g c =
    let job = rw (sym c.self.view_is) at c.requires.stage in
    visit_of _ _ _ _ c.self.view_is (upkeep_visit c.args.number _ _ c.read_deltas-2.new.self (c.read_deltas-2.ensures.own job.0 job.1.has))

-- it is all that the tablet has of the rowset now, in the files that were read
pub returns-clause-back : goal.returns-clause-back
returns-clause-back g c =
    let old = sym c.self.view_is in
    let known = rw old at c.requires.stage in
    let held = rw old at c.in_ok-rowset.ensures.held in
    rw old (λ job had.
    let own = subst (λ (d : RowSetData). HasUpkeep c.args.number (record (upkeep_at c.args.number c.self.inside.upkeep.passes) { job = Some (record job { stage = stage.Read; dms = c.in_ok-rowset.dms; read = Some d }) }) c.self.inside.upkeep c.read_deltas-2.new.self) c.of-read.ensures (c.read_deltas-2.ensures.own job had) in
    has_reread g.L.Disk.tells g.L.Disk.seen g.L.Disk.now g.L.Disk.leaves g.L.Disk.faults g.D.Disk.tells g.D.Disk.seen g.D.Disk.faults _ c.self.invariant c.args.number job had (same_stage c.args.number _ (known.0, known.1) job had) (same_rewrites c.args.number c.self.inside.upkeep known.0 job known.1.has had known.2)
    c.in_ok-rowset.dms c.in_ok-rowset.rowset c.read_deltas-2.new.self own c.read_deltas-2.ensures.begun ((rw old at c.in_ok-rowset.ensures.read) job had) held)
