use Rattle.std.proofs.Common.{◌≡◌, Err, None, Some, sym, ap, subst, ◌∙◌}
use Rattle.kt_engine.specs.Jobs.{JobView, IsUnpublished}
use Rattle.kt_engine.specs.JobCalls.{MayGoOut}
use Rattle.kt_maint.specs.Runs.{MayAbandon}
use Rattle.kt_maint.proofs.Coming.{publish_visit, publish_stands, publish_log, publish_asks, publish_back, publish_done, published_as, outgoing, out_written, visit_outgoing, stands_outgoing, its_next, went_out, went_goes, went_publishing}
use Rattle.kt_maint.proofs.Stages.{some_is}
use Rattle.kt_maint.proofs.Visiting.{asks_same}
use Rattle.kt_maint.proofs.publishing.publish_job.Goals as goal

none_some : {A : Type 0} (x : A) → None ≡ Some x → ⊥
none_some x h = cc

pub store_out-requires-clause-job : goal.store_out-requires-clause-job
store_out-requires-clause-job g c = λ job publishes has.
    subst (λ (x : JobView). MayGoOut g.D.Disk.tells g.D.Disk.seen g.D.Disk.now g.D.Disk.leaves c.args.engine.now x x.output) (some_is c.requires.may.0 job (sym c.requires.may.1 ∙ has)) c.requires.may.2

pub publish_and_return-requires-clause-publishing : goal.publish_and_return-requires-clause-publishing
publish_and_return-requires-clause-publishing g c =
    let by = c.args.by in
    let old = c.args.engine.now in
    let job = c.requires.may.0 in
    let has = c.requires.may.1 in
    let out = c.store_out.new.self in
    let lent = c.in-Ok.lent in
    let next = its_next by old out lent job has c.in-Ok.ensures.lent.2 c.in-Ok.ensures.meta in
    let lends = c.in-Ok.ensures.publishes job next.m next.is has in
    went_publishing by old out lent job has c.in-Ok.ensures.lent.2 c.in-Ok.ensures.meta lends c.in-Ok.ensures.lent.1 c.in-Ok.ensures.numbers c.in-Ok.ensures.whole

pub publish_and_return-requires-clause-goes : goal.publish_and_return-requires-clause-goes
publish_and_return-requires-clause-goes g c =
    let by = c.args.by in
    let old = c.args.engine.now in
    let job = c.requires.may.0 in
    let has = c.requires.may.1 in
    let out = c.store_out.new.self in
    let lent = c.in-Ok.lent in
    went_goes by old out lent job has c.in-Ok.ensures.lent.2 c.in-Ok.ensures.meta c.requires.goes

pub unreachable-requires-in-Err-Out : goal.unreachable-requires-in-Err-Out
unreachable-requires-in-Err-Out g c =
    let out = (c.store_out.ensures.out c.in-Err-Out.field-0-0).0 (c.in-Err-Out.is ∙ ap Err c.in-Err-Out.field-0-is) in
    none_some c.in-Err-Out.field-0-0 (sym c.requires.home ∙ out.1)

pub returns-in-Ok-clause-visit : goal.returns-in-Ok-clause-visit
returns-in-Ok-clause-visit g c =
    let by = c.args.by in
    let old = c.args.engine.now in
    let job = c.requires.may.0 in
    let has = c.requires.may.1 in
    let out = c.store_out.new.self in
    let lent = c.in-Ok.lent in
    let next = its_next by old out lent job has c.in-Ok.ensures.lent.2 c.in-Ok.ensures.meta in
    let lends = c.in-Ok.ensures.publishes job next.m next.is has in
    let e = c.publish_and_return.ensures in
    let new = c.publish_and_return.new.engine in
    visit_outgoing by old job.output new (publish_visit by (outgoing job.output old) out lent c.requires.home (went_out by old out lent job has c.in-Ok.ensures.lent.2 c.in-Ok.ensures.meta) job next.m.number lends new c.publish_and_return.result e.turned e.broken e.published e.memory)

pub returns-in-Ok-clause-still : goal.returns-in-Ok-clause-still
returns-in-Ok-clause-still g c =
    let by = c.args.by in
    let old = c.args.engine.now in
    let job = c.requires.may.0 in
    let has = c.requires.may.1 in
    let out = c.store_out.new.self in
    let lent = c.in-Ok.lent in
    let next = its_next by old out lent job has c.in-Ok.ensures.lent.2 c.in-Ok.ensures.meta in
    let lends = c.in-Ok.ensures.publishes job next.m next.is has in
    let e = c.publish_and_return.ensures in
    let new = c.publish_and_return.new.engine in
    stands_outgoing by old job.output new (publish_stands by (outgoing job.output old) out lent c.requires.home (went_out by old out lent job has c.in-Ok.ensures.lent.2 c.in-Ok.ensures.meta) job next.m.number lends new c.publish_and_return.result e.turned e.broken e.published e.memory)

pub returns-in-Ok-clause-log : goal.returns-in-Ok-clause-log
returns-in-Ok-clause-log g c =
    let by = c.args.by in
    let old = c.args.engine.now in
    let job = c.requires.may.0 in
    let has = c.requires.may.1 in
    let out = c.store_out.new.self in
    let lent = c.in-Ok.lent in
    let next = its_next by old out lent job has c.in-Ok.ensures.lent.2 c.in-Ok.ensures.meta in
    let lends = c.in-Ok.ensures.publishes job next.m next.is has in
    let e = c.publish_and_return.ensures in
    let new = c.publish_and_return.new.engine in
    publish_log by (outgoing job.output old) out lent c.requires.home (went_out by old out lent job has c.in-Ok.ensures.lent.2 c.in-Ok.ensures.meta) job next.m.number lends new c.publish_and_return.result e.turned e.broken e.published e.memory

pub returns-in-Ok-clause-asks : goal.returns-in-Ok-clause-asks
returns-in-Ok-clause-asks g c =
    let by = c.args.by in
    let old = c.args.engine.now in
    let job = c.requires.may.0 in
    let has = c.requires.may.1 in
    let out = c.store_out.new.self in
    let lent = c.in-Ok.lent in
    let next = its_next by old out lent job has c.in-Ok.ensures.lent.2 c.in-Ok.ensures.meta in
    let lends = c.in-Ok.ensures.publishes job next.m next.is has in
    let e = c.publish_and_return.ensures in
    let new = c.publish_and_return.new.engine in
    publish_asks by (outgoing job.output old) out lent c.requires.home (went_out by old out lent job has c.in-Ok.ensures.lent.2 c.in-Ok.ensures.meta) job next.m.number lends new c.publish_and_return.result e.turned e.broken e.published e.memory

pub returns-in-Ok-clause-back : goal.returns-in-Ok-clause-back
returns-in-Ok-clause-back g c =
    let by = c.args.by in
    let old = c.args.engine.now in
    let job = c.requires.may.0 in
    let has = c.requires.may.1 in
    let out = c.store_out.new.self in
    let lent = c.in-Ok.lent in
    let next = its_next by old out lent job has c.in-Ok.ensures.lent.2 c.in-Ok.ensures.meta in
    let lends = c.in-Ok.ensures.publishes job next.m next.is has in
    let e = c.publish_and_return.ensures in
    let new = c.publish_and_return.new.engine in
    publish_back by (outgoing job.output old) out lent c.requires.home (went_out by old out lent job has c.in-Ok.ensures.lent.2 c.in-Ok.ensures.meta) job next.m.number lends new c.publish_and_return.result e.turned e.broken e.published e.memory

pub returns-in-Ok-clause-published : goal.returns-in-Ok-clause-published
returns-in-Ok-clause-published g c = λ job has.
    let by = c.args.by in
    let old = c.args.engine.now in
    let out = c.store_out.new.self in
    let lent = c.in-Ok.lent in
    let next = its_next by old out lent job has c.in-Ok.ensures.lent.2 c.in-Ok.ensures.meta in
    let lends = c.in-Ok.ensures.publishes job next.m next.is has in
    let e = c.publish_and_return.ensures in
    let new = c.publish_and_return.new.engine in
    published_as by old job new c.publish_and_return.result (publish_done by (outgoing job.output old) out lent c.requires.home (went_out by old out lent job has c.in-Ok.ensures.lent.2 c.in-Ok.ensures.meta) job next.m.number lends new c.publish_and_return.result e.turned e.broken e.published e.memory e.lent e.numbers)

-- for want of memory the job is as it was

pub returns-in-Err-Memory-clause-back : goal.returns-in-Err-Memory-clause-back
returns-in-Err-Memory-clause-back g c = λ e.
    let may = c.requires.may in
    let written = out_written g.D.Disk.tells g.D.Disk.seen g.D.Disk.now g.D.Disk.leaves c.args.engine.now may.0 may.0.output may.2 in
    subst (λ v. MayAbandon v c.args.by) (sym c.in-Err-Memory.ensures.stays) (record { job = may.0; has = may.1; early = subst IsUnpublished (sym written) tt; free = c.requires.free })

pub returns-in-Err-Memory-clause-asks : goal.returns-in-Err-Memory-clause-asks
returns-in-Err-Memory-clause-asks g c = λ goes. asks_same c.args.by c.args.engine.now.upkeep c.store_out.new.self.upkeep (ap (λ v. v.upkeep) c.in-Err-Memory.ensures.stays)
