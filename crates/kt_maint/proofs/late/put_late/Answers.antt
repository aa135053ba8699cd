use Rattle.std.proofs.Common.{◌≡◌, map, Err, None, Some, sym, ap, subst, ◌∙◌}
use Rattle.std.proofs.lemmas.Result.{IfOk-weaker}
use Rattle.kt_history.specs.Machine.{least}
use Rattle.kt_histlaws.specs.Core.{flown_by}
use Rattle.kt_diskrowset.specs.declared.inputs.Outputs.{Outputs}
use Rattle.kt_engine.proofs.Outsiders.{out_free}
use Rattle.kt_maint.specs.Outside.{AreWithLate, IsPutBy}
use Rattle.kt_maint.proofs.Backs.{compacted_as, flushed_as, back_same, back_returned, back_refrozen, refrozen_abandon, since_order}
use Rattle.kt_engine.specs.JobSteps.{IsMerge}
use Rattle.kt_maint.proofs.LateWritten.{abandon_same, may_give_up}
use Rattle.kt_maint.proofs.OneOut.{not_one}
use Rattle.kt_maint.proofs.Returns.{none_added, returned_abandon, still_free}
use Rattle.kt_maint.proofs.Stages.{some_is}
use Rattle.kt_maint.proofs.Written.{fresh_written}
use Rattle.kt_maint.proofs.late.put_late.Goals as goal

none_some : {A : Type 0} (x : A) → None ≡ Some x → ⊥
none_some x h = cc

pub job_return-requires : goal.job_return-requires
job_return-requires g c = let w = c.requires.come.away in record { stage = (w.job, record { has = w.own; at = w.at }) }

pub unreachable-requires : goal.unreachable-requires
unreachable-requires g c =
    let x = c.requires.come.away in
    not_one g.D.Disk.tells g.D.Disk.seen c.args.by x.job c.in-Ok-Rowset.field-0-0 c.in-Ok-Rowset.field-0 c.args.engine.now c.job_return.new.self x.job.want (subst IsMerge (sym x.want.0) x.want.1) c.in-Ok-Rowset.field-0-is (c.in-Ok-Rowset.ensures.back x.job x.own)

pub unreachable-requires-in-Err-NotYet : goal.unreachable-requires-in-Err-NotYet
unreachable-requires-in-Err-NotYet g c =
    let flies = (c.job_return.ensures.waits c.in-Err-NotYet.field-0-0).0 (c.in-Err-NotYet.is ∙ ap Err c.in-Err-NotYet.field-0-is) in
    none_some c.in-Err-NotYet.field-0-0 (sym (ap (λ ws. least (map flown_by ws)) c.requires.calm) ∙ flies.1)

pub write_with_late-requires-clause-vacant : goal.write_with_late-requires-clause-vacant
write_with_late-requires-clause-vacant g c = (still_free g.D.Disk.tells g.D.Disk.seen g.D.Disk.now g.D.Disk.leaves g.D.Disk.faults c.args.by c.args.bound c.args.most c.args.lent.now _ _ c.requires.come).0

pub write_with_late-requires-clause-apart : goal.write_with_late-requires-clause-apart
write_with_late-requires-clause-apart g c = (still_free g.D.Disk.tells g.D.Disk.seen g.D.Disk.now g.D.Disk.leaves g.D.Disk.faults c.args.by c.args.bound c.args.most c.args.lent.now _ _ c.requires.come).1

pub write_with_late-requires-clause-fresh : goal.write_with_late-requires-clause-fresh
write_with_late-requires-clause-fresh g c = let f = c.requires.come.written.files in fresh_written _ f.made c.args.outputs.rowsets f.written

pub write_since-requires-clause-vacant : goal.write_since-requires-clause-vacant
write_since-requires-clause-vacant g c = (still_free g.D.Disk.tells g.D.Disk.seen g.D.Disk.now g.D.Disk.leaves g.D.Disk.faults c.args.by c.args.bound c.args.most c.args.lent.now _ _ c.requires.come).0

pub write_since-requires-clause-apart : goal.write_since-requires-clause-apart
write_since-requires-clause-apart g c = (still_free g.D.Disk.tells g.D.Disk.seen g.D.Disk.now g.D.Disk.leaves g.D.Disk.faults c.args.by c.args.bound c.args.most c.args.lent.now _ _ c.requires.come).1

pub write_since-requires-clause-fresh : goal.write_since-requires-clause-fresh
write_since-requires-clause-fresh g c = let f = c.requires.come.written.files in fresh_written _ f.made c.args.outputs.rowsets f.written

pub write_since-requires-clause-readable : goal.write_since-requires-clause-readable
write_since-requires-clause-readable g c =
    let w = c.requires.come.away in
    let back = (flushed_as g.D.Disk.tells g.D.Disk.seen c.args.by w.job c.args.engine.now c.job_return.new.self w.job.want c.in-Ok-Mems.mems c.in-Ok-Mems.field-0 c.in-Ok-Mems.field-0-is (c.in-Ok-Mems.ensures.back w.job w.own)).back in
    back.since.readable

pub write_since-requires-clause-few : goal.write_since-requires-clause-few
write_since-requires-clause-few g c =
    let w = c.requires.come.away in
    let back = (flushed_as g.D.Disk.tells g.D.Disk.seen c.args.by w.job c.args.engine.now c.job_return.new.self w.job.want c.in-Ok-Mems.mems c.in-Ok-Mems.field-0 c.in-Ok-Mems.field-0-is (c.in-Ok-Mems.ensures.back w.job w.own)).back in
    back.since.few

pub write_since-requires-clause-order : goal.write_since-requires-clause-order
write_since-requires-clause-order g c =
    let w = c.requires.come.away in
    let back = (flushed_as g.D.Disk.tells g.D.Disk.seen c.args.by w.job c.args.engine.now c.job_return.new.self w.job.want c.in-Ok-Mems.mems c.in-Ok-Mems.field-0 c.in-Ok-Mems.field-0-is (c.in-Ok-Mems.ensures.back w.job w.own)).back in
    since_order g.D.Disk.tells c.args.by w.job c.in-Ok-Mems.mems c.args.engine.now c.job_return.new.self back

-- a compaction

pub returns-in-Ok-Rowsets-clause-returned : goal.returns-in-Ok-Rowsets-clause-returned
returns-in-Ok-Rowsets-clause-returned g c =
    let w = c.requires.come.away in
    let its = compacted_as g.D.Disk.tells g.D.Disk.seen c.args.by w.job c.args.engine.now c.job_return.new.self w.job.want c.in-Ok-Rowsets.now c.in-Ok-Rowsets.field-0 c.in-Ok-Rowsets.field-0-is (c.in-Ok-Rowsets.ensures.back w.job w.own) in
    back_returned c.args.by c.args.engine.now c.job_return.new.self c.job_return.ensures.visit g.D.Disk.tells w.job c.in-Ok-Rowsets.now its.back

pub returns-in-Ok-Rowsets-clause-put : goal.returns-in-Ok-Rowsets-clause-put
returns-in-Ok-Rowsets-clause-put g c =
    let w = c.requires.come.away in
    let its = compacted_as g.D.Disk.tells g.D.Disk.seen c.args.by w.job c.args.engine.now c.job_return.new.self w.job.want c.in-Ok-Rowsets.now c.in-Ok-Rowsets.field-0 c.in-Ok-Rowsets.field-0-is (c.in-Ok-Rowsets.ensures.back w.job w.own) in
    let came = c.write_with_late.new.lent in
    let still = (λ (done : Outputs) (late : AreWithLate g.D.Disk.tells g.D.Disk.seen g.D.Disk.now g.D.Disk.leaves c.args.bound c.args.lent.now came c.as_slice.result.now c.args.outputs.rowsets done.rowsets).
    subst (λ l. AreWithLate g.D.Disk.tells g.D.Disk.seen g.D.Disk.now g.D.Disk.leaves c.args.bound c.args.lent.now came l c.args.outputs.rowsets done.rowsets) c.as_slice.ensures late) in
    IfOk-weaker c.write_with_late.result _ _
    (λ done late job has. subst (λ j. IsPutBy j.want g.D.Disk.tells g.D.Disk.seen g.D.Disk.now g.D.Disk.leaves g.D.Disk.faults c.args.by c.args.bound c.args.most c.args.lent.now came j c.args.outputs.rowsets done.rowsets c.args.engine.now c.job_return.new.self) (some_is w.job job (sym w.own ∙ has))
    (subst (λ x. IsPutBy x g.D.Disk.tells g.D.Disk.seen g.D.Disk.now g.D.Disk.leaves g.D.Disk.faults c.args.by c.args.bound c.args.most c.args.lent.now came w.job c.args.outputs.rowsets done.rowsets c.args.engine.now c.job_return.new.self) (sym its.is)
    (record { list = c.in-Ok-Rowsets.now; back = its.back; with_late = still done late })))
    c.write_with_late.ensures.late

pub returns-in-Ok-Rowsets-clause-back : goal.returns-in-Ok-Rowsets-clause-back
returns-in-Ok-Rowsets-clause-back g c =
    let w = c.requires.come.away in
    let its = compacted_as g.D.Disk.tells g.D.Disk.seen c.args.by w.job c.args.engine.now c.job_return.new.self w.job.want c.in-Ok-Rowsets.now c.in-Ok-Rowsets.field-0 c.in-Ok-Rowsets.field-0-is (c.in-Ok-Rowsets.ensures.back w.job w.own) in
    returned_abandon g.D.Disk.tells c.args.by w.job c.in-Ok-Rowsets.now c.args.engine.now c.job_return.new.self its.back

-- a flush

pub returns-in-Ok-Mems-clause-returned : goal.returns-in-Ok-Mems-clause-returned
returns-in-Ok-Mems-clause-returned g c =
    let w = c.requires.come.away in
    let its = flushed_as g.D.Disk.tells g.D.Disk.seen c.args.by w.job c.args.engine.now c.job_return.new.self w.job.want c.in-Ok-Mems.mems c.in-Ok-Mems.field-0 c.in-Ok-Mems.field-0-is (c.in-Ok-Mems.ensures.back w.job w.own) in
    back_refrozen c.args.by c.args.engine.now c.job_return.new.self c.job_return.ensures.visit g.D.Disk.tells w.job c.in-Ok-Mems.mems its.back

pub returns-in-Ok-Mems-clause-put : goal.returns-in-Ok-Mems-clause-put
returns-in-Ok-Mems-clause-put g c =
    let w = c.requires.come.away in
    let its = flushed_as g.D.Disk.tells g.D.Disk.seen c.args.by w.job c.args.engine.now c.job_return.new.self w.job.want c.in-Ok-Mems.mems c.in-Ok-Mems.field-0 c.in-Ok-Mems.field-0-is (c.in-Ok-Mems.ensures.back w.job w.own) in
    let came = c.write_since.new.lent in
    IfOk-weaker c.write_since.result _ _
    (λ done since job has. subst (λ j. IsPutBy j.want g.D.Disk.tells g.D.Disk.seen g.D.Disk.now g.D.Disk.leaves g.D.Disk.faults c.args.by c.args.bound c.args.most c.args.lent.now came j c.args.outputs.rowsets done.rowsets c.args.engine.now c.job_return.new.self) (some_is w.job job (sym w.own ∙ has))
    (subst (λ x. IsPutBy x g.D.Disk.tells g.D.Disk.seen g.D.Disk.now g.D.Disk.leaves g.D.Disk.faults c.args.by c.args.bound c.args.most c.args.lent.now came w.job c.args.outputs.rowsets done.rowsets c.args.engine.now c.job_return.new.self) (sym its.is)
    (record { mems = c.in-Ok-Mems.mems; back = its.back; with_since = since })))
    c.write_since.ensures.since

pub returns-in-Ok-Mems-clause-back : goal.returns-in-Ok-Mems-clause-back
returns-in-Ok-Mems-clause-back g c =
    let w = c.requires.come.away in
    let its = flushed_as g.D.Disk.tells g.D.Disk.seen c.args.by w.job c.args.engine.now c.job_return.new.self w.job.want c.in-Ok-Mems.mems c.in-Ok-Mems.field-0 c.in-Ok-Mems.field-0-is (c.in-Ok-Mems.ensures.back w.job w.own) in
    refrozen_abandon g.D.Disk.tells c.args.by w.job c.in-Ok-Mems.mems c.args.engine.now c.job_return.new.self its.back

-- there was no memory

pub returns-in-Err-Memory-clause-returned : goal.returns-in-Err-Memory-clause-returned
returns-in-Err-Memory-clause-returned g c = back_same c.args.by c.args.engine.now c.job_return.new.self c.job_return.ensures.visit c.in-Err-Memory.ensures.same

pub returns-in-Err-Memory-clause-added : goal.returns-in-Err-Memory-clause-added
returns-in-Err-Memory-clause-added g c = none_added g.D.Disk.tells g.D.Disk.seen g.D.Disk.now g.D.Disk.leaves g.D.Disk.faults c.args.most c.args.lent.now

pub returns-in-Err-Memory-clause-back : goal.returns-in-Err-Memory-clause-back
returns-in-Err-Memory-clause-back g c =
    abandon_same c.args.by c.args.engine.now c.job_return.new.self (ap (λ v. v.upkeep) c.in-Err-Memory.ensures.same)
    (may_give_up g.D.Disk.tells g.D.Disk.seen g.D.Disk.now g.D.Disk.leaves g.D.Disk.faults c.args.by c.args.bound c.args.most c.args.lent.now _ c.args.engine.now c.requires.come (λ job has at. (out_free _ _ _ _ _ job (c.standing.ensures.stored.outside c.args.by job has at)).0))
