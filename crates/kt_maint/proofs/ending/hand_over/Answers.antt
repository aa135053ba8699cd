use Rattle.std.proofs.Common.{sym, ap, subst, ◌∙◌}
use Rattle.kt_engine.specs.JobCalls.{GivesOne}
use Rattle.kt_engine.specs.JobSteps.{IsMerge}
use Rattle.kt_engine.proofs.JobCalls.{as_merge}
use Rattle.kt_maint.specs.JobRuns.{MayEnd, MayHandIn}
use Rattle.kt_maint.proofs.Begun.{all_ok}
use Rattle.kt_maint.proofs.JobEnds.{to_go, may_end}
use Rattle.kt_maint.proofs.Returns.{hand_in_written, published_read, written_by}
use Rattle.kt_maint.proofs.Stages.{some_is, ready_then}
use Rattle.kt_maint.proofs.Visiting.{asks_then, visit_then, stands_same, stands_then}
use Rattle.kt_maint.proofs.ending.hand_over.Goals as goal

pub hand_in-requires-clause-read : goal.hand_in-requires-clause-read
hand_in-requires-clause-read g c = let at = c.requires.may.1.at in (at.job, record { has = at.has; at = at.at })

pub hand_in-requires-clause-free : goal.hand_in-requires-clause-free
hand_in-requires-clause-free g c = c.requires.may.1.at.free

pub hand_in-requires-clause-fresh : goal.hand_in-requires-clause-fresh
hand_in-requires-clause-fresh g c = c.requires.may.1.fresh

pub hand_in-requires-clause-rewritten : goal.hand_in-requires-clause-rewritten
hand_in-requires-clause-rewritten g c = λ job has.
    let at = c.requires.may.1.at in
    let same = some_is at.job job (sym at.has ∙ has) in
    as_merge (Unit {0}) (λ rowset. GivesOne job.want c.args.engine.now.tablet.files c.args.outputs.rowsets) job.want (subst (λ j. IsMerge j.want) same at.want) tt

pub publish_job-requires-clause-home : goal.publish_job-requires-clause-home
publish_job-requires-clause-home g c = ap (λ v. v.store.holder) c.hand_in.ensures.beside ∙ c.requires.calm.home

pub publish_job-requires-clause-durable : goal.publish_job-requires-clause-durable
publish_job-requires-clause-durable g c = let beside = c.hand_in.ensures.beside in (ap (λ v. v.log.queued) beside ∙ c.requires.calm.settled.0, ap (λ v. v.log.out) beside ∙ c.requires.calm.settled.1)

pub publish_job-requires-clause-goes : goal.publish_job-requires-clause-goes
publish_job-requires-clause-goes g c = ap (λ v. v.tablet.core.stopped) c.hand_in.ensures.beside ∙ c.requires.calm.goes

pub publish_job-requires-clause-may : goal.publish_job-requires-clause-may
publish_job-requires-clause-may g c =
    let e0 = c.args.engine.now in
    let by = c.args.by in
    let e1 = c.hand_in.new.engine in
    let w = c.requires.may.0 in
    let is_ready = ready_then by e0 e1 c.hand_in.ensures.quiet.tablet c.hand_in.ensures.quiet.log (ap (λ v. v.store.holder) c.hand_in.ensures.beside ∙ c.requires.calm.home) c.requires.calm in
    let written = written_by g.D.Disk.tells g.D.Disk.seen g.D.Disk.now g.D.Disk.leaves e1 by w
    (hand_in_written g.D.Disk.tells g.D.Disk.seen g.D.Disk.now g.D.Disk.leaves by w e0 e1 c.args.outputs.rowsets c.requires.may.1 c.hand_in.ensures.beside c.in-Ok.ensures.written c.fewer_law.ensures.stand c.written_law.ensures.told is_ready) in
    let go = to_go g.D.Disk.tells g.D.Disk.seen g.D.Disk.now g.D.Disk.leaves by w e1 written in
    (go.job, go.has, go.may)

pub publish_job-requires-clause-free : goal.publish_job-requires-clause-free
publish_job-requires-clause-free g c =
    let e0 = c.args.engine.now in
    let by = c.args.by in
    let e1 = c.hand_in.new.engine in
    let w = c.requires.may.0 in
    let is_ready = ready_then by e0 e1 c.hand_in.ensures.quiet.tablet c.hand_in.ensures.quiet.log (ap (λ v. v.store.holder) c.hand_in.ensures.beside ∙ c.requires.calm.home) c.requires.calm in
    let written = written_by g.D.Disk.tells g.D.Disk.seen g.D.Disk.now g.D.Disk.leaves e1 by w
    (hand_in_written g.D.Disk.tells g.D.Disk.seen g.D.Disk.now g.D.Disk.leaves by w e0 e1 c.args.outputs.rowsets c.requires.may.1 c.hand_in.ensures.beside c.in-Ok.ensures.written c.fewer_law.ensures.stand c.written_law.ensures.told is_ready) in
    (to_go g.D.Disk.tells g.D.Disk.seen g.D.Disk.now g.D.Disk.leaves by w e1 written).free

pub returns-clause-visit : goal.returns-clause-visit
returns-clause-visit g c = visit_then c.args.by c.args.engine.now c.hand_in.new.engine c.publish_job.new.engine c.hand_in.ensures.quiet c.publish_job.ensures.visit

pub returns-clause-still : goal.returns-clause-still
returns-clause-still g c =
    let e0 = c.args.engine.now in
    let e1 = c.hand_in.new.engine in
    let same = c.hand_in.ensures.quiet.tablet in
    stands_then c.args.by e0 e1 c.publish_job.new.engine (ap (λ t. t.core.trail) same) (stands_same c.args.by e0 e1 same) c.publish_job.ensures.still

pub returns-clause-log : goal.returns-clause-log
returns-clause-log g c = c.publish_job.ensures.log ∙ c.hand_in.ensures.quiet.log

pub returns-clause-asks : goal.returns-clause-asks
returns-clause-asks g c = λ goes. asks_then c.args.by c.args.engine.now.upkeep c.hand_in.new.engine.upkeep c.publish_job.new.engine.upkeep c.hand_in.ensures.quiet.asks (c.publish_job.ensures.asks goes)

pub returns-clause-published : goal.returns-clause-published
returns-clause-published g c =
    let e0 = c.args.engine.now in
    let by = c.args.by in
    let e1 = c.hand_in.new.engine in
    all_ok c.publish_job.result (λ x. MayHandIn g.D.Disk.tells g.D.Disk.seen g.D.Disk.now g.D.Disk.leaves e0 by x c.args.outputs.rowsets) (λ x. MayEnd c.publish_job.new.engine by x) (λ x may.
    let is_ready = ready_then by e0 e1 c.hand_in.ensures.quiet.tablet c.hand_in.ensures.quiet.log (ap (λ v. v.store.holder) c.hand_in.ensures.beside ∙ c.requires.calm.home) c.requires.calm in
    let written = written_by g.D.Disk.tells g.D.Disk.seen g.D.Disk.now g.D.Disk.leaves e1 by x
    (hand_in_written g.D.Disk.tells g.D.Disk.seen g.D.Disk.now g.D.Disk.leaves by x e0 e1 c.args.outputs.rowsets may c.hand_in.ensures.beside c.in-Ok.ensures.written c.fewer_law.ensures.stand c.written_law.ensures.told is_ready) in
    may_end g.D.Disk.tells g.D.Disk.seen g.D.Disk.now g.D.Disk.leaves by x e1 written c.publish_job.new.engine c.publish_job.result c.publish_job.ensures.published c.publish_job.ensures.visit c.publish_job.ensures.asks)

pub returns-clause-reads : goal.returns-clause-reads
returns-clause-reads g c =
    let at = c.requires.may.1.at in
    published_read c.args.by at.job c.args.outputs.rowsets c.args.engine.now c.hand_in.new.engine c.publish_job.new.engine c.publish_job.result at.has at.want (c.in-Ok.ensures.written at.job at.has) c.publish_job.ensures.published
