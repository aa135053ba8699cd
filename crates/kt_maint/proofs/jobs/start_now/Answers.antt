use Rattle.std.proofs.Common.{sym, subst}
use Rattle.kt_maint.specs.JobRuns.{BeginsBy}
use Rattle.kt_maint.specs.Outside.{LeftAs}
use Rattle.kt_maint.proofs.Begun.{begins_merge, starts_as}
use Rattle.kt_maint.proofs.jobs.start_now.Goals as goal

pub leave_now-requires-clause-begun : goal.leave_now-requires-clause-begun
leave_now-requires-clause-begun g c = (c.args.want.now, begins_merge c.begin_now.new.engine c.args.by c.args.want.now c.in-Flush.is c.in-Ok.ensures.begun.begins)

pub returns-in-Flush-clause-starts : goal.returns-in-Flush-clause-starts
returns-in-Flush-clause-starts g c =
    let begun = c.in-Ok.ensures.begun in
    starts_as g.D.Disk.tells g.D.Disk.seen c.args.by c.args.want.now c.args.engine.now c.begin_now.new.engine c.leave_now.new.engine c.leave_now.result begun (c.leave_now.ensures.left c.args.want.now (begins_merge c.begin_now.new.engine c.args.by c.args.want.now c.in-Flush.is begun.begins))

pub leave_one-requires-clause-begun : goal.leave_one-requires-clause-begun
leave_one-requires-clause-begun g c = subst (BeginsBy c.begin_now.new.engine c.args.by) c.in-FlushDeltas.is c.in-Ok.ensures.begun.begins

pub returns-in-FlushDeltas-clause-starts : goal.returns-in-FlushDeltas-clause-starts
returns-in-FlushDeltas-clause-starts g c =
    starts_as g.D.Disk.tells g.D.Disk.seen c.args.by c.args.want.now c.args.engine.now c.begin_now.new.engine c.leave_one.new.engine c.leave_one.result c.in-Ok.ensures.begun
    (subst (λ w. LeftAs g.D.Disk.tells g.D.Disk.seen c.args.by w c.begin_now.new.engine c.leave_one.new.engine c.leave_one.result) (sym c.in-FlushDeltas.is) c.leave_one.ensures.left)

pub leave_one-requires-in-Minor-clause-begun : goal.leave_one-requires-in-Minor-clause-begun
leave_one-requires-in-Minor-clause-begun g c = subst (BeginsBy c.begin_now.new.engine c.args.by) c.in-Minor.is c.in-Ok.ensures.begun.begins

pub returns-in-Minor-clause-starts : goal.returns-in-Minor-clause-starts
returns-in-Minor-clause-starts g c =
    starts_as g.D.Disk.tells g.D.Disk.seen c.args.by c.args.want.now c.args.engine.now c.begin_now.new.engine c.leave_one-in-Minor.new.engine c.leave_one-in-Minor.result c.in-Ok.ensures.begun
    (subst (λ w. LeftAs g.D.Disk.tells g.D.Disk.seen c.args.by w c.begin_now.new.engine c.leave_one-in-Minor.new.engine c.leave_one-in-Minor.result) (sym c.in-Minor.is) c.leave_one-in-Minor.ensures.left)

pub leave_one-requires-in-Major-clause-begun : goal.leave_one-requires-in-Major-clause-begun
leave_one-requires-in-Major-clause-begun g c = subst (BeginsBy c.begin_now.new.engine c.args.by) c.in-Major.is c.in-Ok.ensures.begun.begins

pub returns-in-Major-clause-starts : goal.returns-in-Major-clause-starts
returns-in-Major-clause-starts g c =
    starts_as g.D.Disk.tells g.D.Disk.seen c.args.by c.args.want.now c.args.engine.now c.begin_now.new.engine c.leave_one-in-Major.new.engine c.leave_one-in-Major.result c.in-Ok.ensures.begun
    (subst (λ w. LeftAs g.D.Disk.tells g.D.Disk.seen c.args.by w c.begin_now.new.engine c.leave_one-in-Major.new.engine c.leave_one-in-Major.result) (sym c.in-Major.is) c.leave_one-in-Major.ensures.left)
