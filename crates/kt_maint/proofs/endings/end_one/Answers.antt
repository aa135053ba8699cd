use Rattle.std.proofs.Common.{Err, ap, subst, ◌∙◌}
use Rattle.kt_base.specs.Causes.{Rose}
use Rattle.kt_engine.specs.Visits.{part_in}
use Rattle.kt_engine.proofs.Outsiders.{out_free}
use Rattle.kt_maint.specs.Reworks.{HasComeOne}
use Rattle.kt_maint.specs.Runs.{is_pass}
use Rattle.kt_maint.proofs.Begun.{ends_failed}
use Rattle.kt_maint.proofs.LateWritten.{log_free}
use Rattle.kt_maint.proofs.OneOut.{one_give_up, one_home, one_lent, one_log}
use Rattle.kt_maint.proofs.Readying.{none_has}
use Rattle.kt_maint.proofs.endings.end_one.Goals as goal

pub end_one_written-requires-clause-come : goal.end_one_written-requires-clause-come
end_one_written-requires-clause-come g c = subst (λ r. HasComeOne g.D.Disk.tells g.D.Disk.seen g.D.Disk.now g.D.Disk.leaves g.D.Disk.faults c.args.by c.args.want.now c.args.most c.args.lent r (part_in c.args.engine.now c.args.by)) c.in-Ok.is c.requires.come

pub fail-requires-clause-out : goal.fail-requires-clause-out
fail-requires-clause-out g c = (one_lent g.D.Disk.tells g.D.Disk.seen g.D.Disk.now g.D.Disk.leaves g.D.Disk.faults c.args.by c.args.want.now c.args.most c.args.lent _ c.args.engine.now c.requires.come).out

pub fail-requires-clause-may : goal.fail-requires-clause-may
fail-requires-clause-may g c = one_home g.D.Disk.tells g.D.Disk.seen g.D.Disk.now g.D.Disk.leaves g.D.Disk.faults c.args.by c.args.want.now c.args.most c.args.lent _ c.args.engine.now c.requires.come

pub fail-requires-clause-job : goal.fail-requires-clause-job
fail-requires-clause-job g c = one_give_up g.D.Disk.tells g.D.Disk.seen g.D.Disk.now g.D.Disk.leaves g.D.Disk.faults c.args.by c.args.want.now c.args.most c.args.lent _ c.args.engine.now c.requires.come (λ job has at. (out_free _ _ _ _ _ job (c.standing.ensures.stored.outside c.args.by job has at)).0)

pub fail-requires-clause-rose : goal.fail-requires-clause-rose
fail-requires-clause-rose g c = λ is.
    let faults = g.D.Disk.faults in
    subst (λ d. Rose (faults d) (faults c.args.lent.device)) (one_lent g.D.Disk.tells g.D.Disk.seen g.D.Disk.now g.D.Disk.leaves g.D.Disk.faults c.args.by c.args.want.now c.args.most c.args.lent _ c.args.engine.now c.requires.come).device (c.requires.come.written.added.rose (c.in-Err.is ∙ ap Err is))

pub returns-in-Err-clause-ends : goal.returns-in-Err-clause-ends
returns-in-Err-clause-ends g c =
    let free = log_free c.args.by c.args.engine.now (one_log g.D.Disk.tells g.D.Disk.seen g.D.Disk.now g.D.Disk.leaves g.D.Disk.faults c.args.by c.args.want.now c.args.most c.args.lent _ c.args.engine.now c.requires.come) in
    ends_failed c.args.by c.args.want.now c.args.engine.now c.fail.new.engine c.fail.result
    (record { log = ap (λ l. is_pass l.holder c.args.by) c.fail.ensures.home.0 ∙ free; store = none_has c.fail.new.engine.store.holder c.args.by c.fail.ensures.home.1 }) c.fail.ensures.stopped c.fail.ensures.none
