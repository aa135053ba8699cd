use Rattle.std.proofs.Common.{◌≡◌, [], sym, ap, subst, ◌∙◌}
use Rattle.std.specs.List.{AllByRecursion}
use Rattle.kt_diskrowset.specs.declared.data.RowSetData.{RowSetData}
use Rattle.kt_engine.specs.Jobs.{IsUnpublished}
use Rattle.kt_maint.specs.DeltaRuns.{MayHandOne}
use Rattle.kt_maint.specs.JobRuns.{MayEnd}
use Rattle.kt_maint.proofs.Begun.{all_ok}
use Rattle.kt_maint.proofs.DeltaSteps.{filed_free, one_may_end, one_read, one_to_go, one_written, swap_gives}
use Rattle.kt_maint.proofs.Visiting.{asks_then, visit_then, stands_same, stands_then}
use Rattle.kt_maint.proofs.endings.hand_one.Goals as goal

-- for want of memory it is as it came back
pub returns-in_default-clause-memory : goal.returns-in_default-clause-memory
returns-in_default-clause-memory g c = λ err.
    let at = c.requires.may.1.made.at in
    record { job = at.job; has = at.has; early = subst IsUnpublished (sym at.at) tt; free = at.free }

pub hand_in-requires-clause-read : goal.hand_in-requires-clause-read
hand_in-requires-clause-read g c = let at = c.requires.may.1.made.at in (at.job, record { has = at.has; at = at.at })

pub hand_in-requires-clause-free : goal.hand_in-requires-clause-free
hand_in-requires-clause-free g c = c.requires.may.1.made.at.free

pub hand_in-requires-clause-fresh : goal.hand_in-requires-clause-fresh
hand_in-requires-clause-fresh g c = subst (AllByRecursion (λ (d : RowSetData). d.fresh ≡ [])) (sym c.in-Ok.ensures) (c.requires.may.1.files.fresh, tt)

-- what was written has the shape that the want asks, and leaves the files that it leaves
pub hand_in-requires-clause-rewritten : goal.hand_in-requires-clause-rewritten
hand_in-requires-clause-rewritten g c =
    let e0 = c.args.engine.now in
    swap_gives g.D.Disk.tells g.D.Disk.seen g.D.Disk.now g.D.Disk.leaves g.D.Disk.faults c.args.by c.requires.may.0 e0 c.args.rowset c.standing.ensures.side c.requires.may.1 (filed_free e0 c.requires.may.1.made.at.free c.standing.ensures.stored) c.in-Ok.outputs.rowsets c.in-Ok.ensures

pub publish_job-requires-clause-home : goal.publish_job-requires-clause-home
publish_job-requires-clause-home g c = ap (λ v. v.store.holder) c.hand_in.ensures.beside ∙ c.requires.calm.home

pub publish_job-requires-clause-durable : goal.publish_job-requires-clause-durable
publish_job-requires-clause-durable g c = let beside = c.hand_in.ensures.beside in (ap (λ v. v.log.queued) beside ∙ c.requires.calm.settled.0, ap (λ v. v.log.out) beside ∙ c.requires.calm.settled.1)

pub publish_job-requires-clause-goes : goal.publish_job-requires-clause-goes
publish_job-requires-clause-goes g c = ap (λ v. v.tablet.core.stopped) c.hand_in.ensures.beside ∙ c.requires.calm.goes

pub publish_job-requires-clause-may : goal.publish_job-requires-clause-may
publish_job-requires-clause-may g c =
    let e0 = c.args.engine.now in
    let written = one_written g.D.Disk.tells g.D.Disk.seen g.D.Disk.now g.D.Disk.leaves g.D.Disk.faults c.args.by c.requires.may.0 e0 c.hand_in.new.engine c.args.rowset c.in_place_law.ensures.comes c.in_place_law.ensures.stands c.standing.ensures.side c.requires.calm c.requires.may.1 c.in-Ok.outputs.rowsets c.in-Ok.ensures c.in-Ok-hand_in.ensures.written (filed_free e0 c.requires.may.1.made.at.free c.standing.ensures.stored) in
    let go = one_to_go g.D.Disk.tells g.D.Disk.seen g.D.Disk.now g.D.Disk.leaves c.hand_in.new.engine c.args.by c.requires.may.0 written in
    (go.0, go.1.0, go.1.1)

pub publish_job-requires-clause-free : goal.publish_job-requires-clause-free
publish_job-requires-clause-free g c =
    let e0 = c.args.engine.now in
    let written = one_written g.D.Disk.tells g.D.Disk.seen g.D.Disk.now g.D.Disk.leaves g.D.Disk.faults c.args.by c.requires.may.0 e0 c.hand_in.new.engine c.args.rowset c.in_place_law.ensures.comes c.in_place_law.ensures.stands c.standing.ensures.side c.requires.calm c.requires.may.1 c.in-Ok.outputs.rowsets c.in-Ok.ensures c.in-Ok-hand_in.ensures.written (filed_free e0 c.requires.may.1.made.at.free c.standing.ensures.stored) in
    written.at.free

pub returns-clause-visit : goal.returns-clause-visit
returns-clause-visit g c = visit_then c.args.by c.args.engine.now c.hand_in.new.engine c.publish_job.new.engine c.hand_in.ensures.quiet c.publish_job.ensures.visit

pub returns-clause-still : goal.returns-clause-still
returns-clause-still g c =
    let e0 = c.args.engine.now in
    let e1 = c.hand_in.new.engine in
    let same = c.hand_in.ensures.quiet.tablet in
    stands_then c.args.by e0 e1 c.publish_job.new.engine (ap (λ t. t.core.trail) same) (stands_same c.args.by e0 e1 same) c.publish_job.ensures.still

pub returns-clause-log : goal.returns-clause-log
returns-clause-log g c = c.publish_job.ensures.log ∙ c.hand_in.ensures.quiet.log

pub returns-clause-asks : goal.returns-clause-asks
returns-clause-asks g c = λ goes. asks_then c.args.by c.args.engine.now.upkeep c.hand_in.new.engine.upkeep c.publish_job.new.engine.upkeep c.hand_in.ensures.quiet.asks (c.publish_job.ensures.asks goes)

pub returns-clause-published : goal.returns-clause-published
returns-clause-published g c =
    let e0 = c.args.engine.now in
    let by = c.args.by in
    let e1 = c.hand_in.new.engine in
    all_ok c.publish_job.result (λ x. MayHandOne g.D.Disk.tells g.D.Disk.seen g.D.Disk.now g.D.Disk.leaves e0 by x c.args.rowset) (λ x. MayEnd c.publish_job.new.engine by x) (λ x may.
    let written = one_written g.D.Disk.tells g.D.Disk.seen g.D.Disk.now g.D.Disk.leaves g.D.Disk.faults by x e0 e1 c.args.rowset c.in_place_law.ensures.comes c.in_place_law.ensures.stands c.standing.ensures.side c.requires.calm may c.in-Ok.outputs.rowsets c.in-Ok.ensures c.in-Ok-hand_in.ensures.written (filed_free e0 may.made.at.free c.standing.ensures.stored) in
    one_may_end g.D.Disk.tells g.D.Disk.seen g.D.Disk.now g.D.Disk.leaves by e1 c.publish_job.new.engine x written c.publish_job.result c.publish_job.ensures.published)

pub returns-clause-reads : goal.returns-clause-reads
returns-clause-reads g c =
    let at = c.requires.may.1.made.at in
    one_read c.args.by c.requires.may.0 at c.in-Ok.outputs.rowsets c.args.engine.now c.hand_in.new.engine c.publish_job.new.engine c.publish_job.result (c.in-Ok-hand_in.ensures.written at.job at.has) c.publish_job.ensures.published at.has
