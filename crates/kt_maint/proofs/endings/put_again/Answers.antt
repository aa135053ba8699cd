use Rattle.std.proofs.Common.{◌≡◌, map, Err, None, Some, sym, ap, subst, ◌∙◌}
use Rattle.std.proofs.lemmas.Result.{IfOk-weaker}
use Rattle.kt_history.specs.Machine.{least}
use Rattle.kt_histlaws.specs.Core.{flown_by}
use Rattle.kt_engine.specs.DeltaJobs.{IsOn}
use Rattle.kt_engine.proofs.Outsiders.{out_free}
use Rattle.kt_maint.proofs.Backs.{back_same, back_reread}
use Rattle.kt_maint.proofs.LateWritten.{abandon_same}
use Rattle.kt_maint.proofs.OneOut.{not_mems, not_rowsets, one_give_up, one_vacant, put_now, reread_abandon, reread_as, reread_on}
use Rattle.kt_maint.proofs.Returns.{none_added}
use Rattle.kt_maint.proofs.endings.put_again.Goals as goal

none_some : {A : Type 0} (x : A) → None ≡ Some x → ⊥
none_some x h = cc

pub job_return-requires : goal.job_return-requires
job_return-requires g c = let w = c.requires.come.away in record { stage = (w.job, record { has = w.own; at = w.at }) }

pub unreachable-requires-in-Err-NotYet : goal.unreachable-requires-in-Err-NotYet
unreachable-requires-in-Err-NotYet g c =
    let flies = (c.job_return.ensures.waits c.in-Err-NotYet.field-0-0).0 (c.in-Err-NotYet.is ∙ ap Err c.in-Err-NotYet.field-0-is) in
    none_some c.in-Err-NotYet.field-0-0 (sym (ap (λ ws. least (map flown_by ws)) c.requires.calm) ∙ flies.1)

pub unreachable-requires : goal.unreachable-requires
unreachable-requires g c =
    let w = c.requires.come.away in
    not_rowsets g.D.Disk.tells g.D.Disk.seen c.args.by w.job c.in-Ok-Rowsets.field-0-0 c.in-Ok-Rowsets.field-0 c.args.engine.now c.job_return.new.self w.job.want w.job.rowset (subst (λ x. IsOn w.job.rowset x) (sym w.want.0) w.on.0) c.in-Ok-Rowsets.field-0-is (c.in-Ok-Rowsets.ensures.back w.job w.own)

pub unreachable-requires-in-Ok-Mems : goal.unreachable-requires-in-Ok-Mems
unreachable-requires-in-Ok-Mems g c =
    let w = c.requires.come.away in
    not_mems g.D.Disk.tells g.D.Disk.seen c.args.by w.job c.in-Ok-Mems.field-0-0 c.in-Ok-Mems.field-0 c.args.engine.now c.job_return.new.self w.job.want w.job.rowset (subst (λ x. IsOn w.job.rowset x) (sym w.want.0) w.on.0) c.in-Ok-Mems.field-0-is (c.in-Ok-Mems.ensures.back w.job w.own)

-- its rowset as it is now

pub write_now-requires-clause-on : goal.write_now-requires-clause-on
write_now-requires-clause-on g c =
    let w = c.requires.come.away in
    let on = subst (λ x. IsOn w.job.rowset x) (sym w.want.0) w.on.0 in
    let back = reread_as g.D.Disk.tells g.D.Disk.seen c.args.by w.job c.in-Ok-Rowset.now c.in-Ok-Rowset.field-0 c.args.engine.now c.job_return.new.self w.job.want w.job.rowset on c.in-Ok-Rowset.field-0-is (c.in-Ok-Rowset.ensures.back w.job w.own) in
    reread_on g.D.Disk.tells g.D.Disk.seen c.args.by c.args.want.now w.job c.in-Ok-Rowset.now c.args.engine.now c.job_return.new.self w.own w.want.0 w.on.0 back

pub write_now-requires-clause-vacant : goal.write_now-requires-clause-vacant
write_now-requires-clause-vacant g c = one_vacant g.D.Disk.tells g.D.Disk.seen g.D.Disk.now g.D.Disk.leaves g.D.Disk.faults c.args.by c.args.want.now c.args.most c.args.lent.now _ c.args.engine.now c.requires.come

pub returns-in-Ok-Rowset-clause-returned : goal.returns-in-Ok-Rowset-clause-returned
returns-in-Ok-Rowset-clause-returned g c =
    let w = c.requires.come.away in
    let on = subst (λ x. IsOn w.job.rowset x) (sym w.want.0) w.on.0 in
    let back = reread_as g.D.Disk.tells g.D.Disk.seen c.args.by w.job c.in-Ok-Rowset.now c.in-Ok-Rowset.field-0 c.args.engine.now c.job_return.new.self w.job.want w.job.rowset on c.in-Ok-Rowset.field-0-is (c.in-Ok-Rowset.ensures.back w.job w.own) in
    back_reread c.args.by c.args.engine.now c.job_return.new.self c.job_return.ensures.visit g.D.Disk.tells g.D.Disk.seen w.job c.in-Ok-Rowset.now back

pub returns-in-Ok-Rowset-clause-put : goal.returns-in-Ok-Rowset-clause-put
returns-in-Ok-Rowset-clause-put g c =
    let w = c.requires.come.away in
    let on = subst (λ x. IsOn w.job.rowset x) (sym w.want.0) w.on.0 in
    let back = reread_as g.D.Disk.tells g.D.Disk.seen c.args.by w.job c.in-Ok-Rowset.now c.in-Ok-Rowset.field-0 c.args.engine.now c.job_return.new.self w.job.want w.job.rowset on c.in-Ok-Rowset.field-0-is (c.in-Ok-Rowset.ensures.back w.job w.own) in
    IfOk-weaker c.write_now.result _ _
    (put_now g.D.Disk.tells g.D.Disk.seen g.D.Disk.now g.D.Disk.leaves g.D.Disk.faults c.args.by c.args.want.now c.args.most c.args.lent.now c.args.made c.args.engine.now c.requires.come w.job w.own w.want.0 w.on.0 w.read c.in-Ok-Rowset.now c.job_return.new.self back c.write_now.new.lent)
    c.write_now.ensures.written

pub returns-in-Ok-Rowset-clause-back : goal.returns-in-Ok-Rowset-clause-back
returns-in-Ok-Rowset-clause-back g c =
    let w = c.requires.come.away in
    let on = subst (λ x. IsOn w.job.rowset x) (sym w.want.0) w.on.0 in
    let back = reread_as g.D.Disk.tells g.D.Disk.seen c.args.by w.job c.in-Ok-Rowset.now c.in-Ok-Rowset.field-0 c.args.engine.now c.job_return.new.self w.job.want w.job.rowset on c.in-Ok-Rowset.field-0-is (c.in-Ok-Rowset.ensures.back w.job w.own) in
    reread_abandon g.D.Disk.tells g.D.Disk.seen c.args.by c.args.want.now w.job c.in-Ok-Rowset.now c.args.engine.now c.job_return.new.self w.own w.want.0 w.on.0 back

-- there was no memory

pub returns-in-Err-Memory-clause-returned : goal.returns-in-Err-Memory-clause-returned
returns-in-Err-Memory-clause-returned g c = back_same c.args.by c.args.engine.now c.job_return.new.self c.job_return.ensures.visit c.in-Err-Memory.ensures.same

pub returns-in-Err-Memory-clause-added : goal.returns-in-Err-Memory-clause-added
returns-in-Err-Memory-clause-added g c = none_added g.D.Disk.tells g.D.Disk.seen g.D.Disk.now g.D.Disk.leaves g.D.Disk.faults c.args.most c.args.lent.now

pub returns-in-Err-Memory-clause-back : goal.returns-in-Err-Memory-clause-back
returns-in-Err-Memory-clause-back g c =
    abandon_same c.args.by c.args.engine.now c.job_return.new.self (ap (λ v. v.upkeep) c.in-Err-Memory.ensures.same)
    (one_give_up g.D.Disk.tells g.D.Disk.seen g.D.Disk.now g.D.Disk.leaves g.D.Disk.faults c.args.by c.args.want.now c.args.most c.args.lent.now _ c.args.engine.now c.requires.come (λ job has at. (out_free _ _ _ _ _ job (c.standing.ensures.stored.outside c.args.by job has at)).0))
