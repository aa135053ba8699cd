use Rattle.std.proofs.Common.{Err, ap, subst, ◌∙◌}
use Rattle.kt_base.specs.Causes.{Rose}
use Rattle.kt_engine.proofs.Outsiders.{out_free}
use Rattle.kt_maint.specs.Outside.{HasCome}
use Rattle.kt_maint.specs.Runs.{is_pass}
use Rattle.kt_engine.specs.Visits.{part_in}
use Rattle.kt_maint.proofs.Begun.{ends_failed}
use Rattle.kt_maint.proofs.LateWritten.{log_free, went_out, may_come_home, may_give_up}
use Rattle.kt_maint.proofs.Readying.{none_has}
use Rattle.kt_maint.proofs.ending.end_now.Goals as goal

pub end_written-requires-clause-come : goal.end_written-requires-clause-come
end_written-requires-clause-come g c = subst (λ r. HasCome g.D.Disk.tells g.D.Disk.seen g.D.Disk.now g.D.Disk.leaves g.D.Disk.faults c.args.by c.args.outcome.bound c.args.outcome.most c.args.outcome.lent r (part_in c.args.engine.now c.args.by)) c.in-Ok.is c.requires.come

pub fail-requires-clause-out : goal.fail-requires-clause-out
fail-requires-clause-out g c = (went_out g.D.Disk.tells g.D.Disk.seen g.D.Disk.now g.D.Disk.leaves g.D.Disk.faults c.args.by c.args.outcome.bound c.args.outcome.most c.args.outcome.lent _ c.args.engine.now c.requires.come).out

pub fail-requires-clause-may : goal.fail-requires-clause-may
fail-requires-clause-may g c = may_come_home g.D.Disk.tells g.D.Disk.seen g.D.Disk.now g.D.Disk.leaves g.D.Disk.faults c.args.by c.args.outcome.bound c.args.outcome.most c.args.outcome.lent _ c.args.engine.now c.requires.come

pub fail-requires-clause-job : goal.fail-requires-clause-job
fail-requires-clause-job g c =
    may_give_up g.D.Disk.tells g.D.Disk.seen g.D.Disk.now g.D.Disk.leaves g.D.Disk.faults c.args.by c.args.outcome.bound c.args.outcome.most c.args.outcome.lent _ c.args.engine.now c.requires.come (λ job has at. (out_free _ _ _ _ _ job (c.standing.ensures.stored.outside c.args.by job has at)).0)

pub fail-requires-clause-rose : goal.fail-requires-clause-rose
fail-requires-clause-rose g c = λ is.
    let faults = g.D.Disk.faults in
    let went = went_out g.D.Disk.tells g.D.Disk.seen g.D.Disk.now g.D.Disk.leaves g.D.Disk.faults c.args.by c.args.outcome.bound c.args.outcome.most c.args.outcome.lent _ c.args.engine.now c.requires.come in
    subst (λ d. Rose (faults d) (faults c.args.outcome.lent.device)) went.device (c.requires.come.written.rose (c.in-Err.is ∙ ap Err is))

pub returns-in-Err-clause-ends : goal.returns-in-Err-clause-ends
returns-in-Err-clause-ends g c = λ job has.
    let free = log_free c.args.by c.args.engine.now c.requires.come.away.log in
    ends_failed c.args.by job.want c.args.engine.now c.fail.new.engine c.fail.result
    (record { log = ap (λ l. is_pass l.holder c.args.by) c.fail.ensures.home.0 ∙ free; store = none_has c.fail.new.engine.store.holder c.args.by c.fail.ensures.home.1 }) c.fail.ensures.stopped c.fail.ensures.none
