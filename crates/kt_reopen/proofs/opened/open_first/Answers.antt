use Rattle.std.proofs.Common.{◌≡◌, List, map, subst, ◌∙◌}
use Rattle.kt_diskrowset.specs.declared.data.RowSetData.{RowSetData}
use Rattle.kt_diskrowset.specs.Data.{held_in}
use Rattle.kt_reopen.specs.Opened.{AreReadOf}
use Rattle.kt_reopen.proofs.Making.{none_read}
use Rattle.std.proofs.lemmas.Result.{err_from_is_err_and}
use Rattle.kt_disk.specs.Disk.{LeavesOnly}
use Rattle.kt_super.specs.declared.meta.Meta.{Meta}
use Rattle.kt_files.specs.Named.{named_in}
use Rattle.kt_reopen.specs.Holding.{IsOfStore}
use Rattle.kt_reopen.specs.declared.why.Why.TheVariants as why
use Rattle.kt_reopen.proofs.FirstOpened.{first_opened, no_other_reason, made_of_none, room_of_none, late_of_none}
use Rattle.kt_reopen.proofs.Publishing.{super_left}
use Rattle.kt_reopen.proofs.Sparing.{spared_first, stable_kept}
use Rattle.kt_reopen.proofs.opened.open_first.Goals as goal

pub returns-clause-any_moment : goal.returns-clause-any_moment
returns-clause-any_moment g c = λ told.
    let old = c.args.store.now in
    let meta = c.in_ok-meta.meta in
    subst (λ (m : Meta). LeavesOnly g.D.Disk.now g.D.Disk.leaves (IsOfStore g.D.Disk.now g.D.Disk.leaves m old) old c.remove_others.new.disk) c.in_ok-meta.ensures.meta
    (spared_first g.D.Disk.seen g.D.Disk.now g.D.Disk.leaves old c.publish_first.new.store c.remove_others.new.disk meta (named_in meta.rowsets)
    (λ image left. super_left g.D.Disk.seen g.D.Disk.now g.D.Disk.leaves old (c.requires.stable told) image left ∙ c.requires.unnamed told) (c.publish_first.ensures.any_moment told) (c.remove_others.ensures.any_moment told))

pub returns-in_err-remove_others-clause-any_moment : goal.returns-in_err-remove_others-clause-any_moment
returns-in_err-remove_others-clause-any_moment g c = λ told.
    let old = c.args.store.now in
    let meta = c.in_ok-meta.meta in
    subst (λ (m : Meta). LeavesOnly g.D.Disk.now g.D.Disk.leaves (IsOfStore g.D.Disk.now g.D.Disk.leaves m old) old c.remove_others.new.disk) c.in_ok-meta.ensures.meta
    (spared_first g.D.Disk.seen g.D.Disk.now g.D.Disk.leaves old c.publish_first.new.store c.remove_others.new.disk meta (named_in meta.rowsets)
    (λ image left. super_left g.D.Disk.seen g.D.Disk.now g.D.Disk.leaves old (c.requires.stable told) image left ∙ c.requires.unnamed told) (c.publish_first.ensures.any_moment told) (c.remove_others.ensures.any_moment told))

pub returns-clause-opened : goal.returns-clause-opened
returns-clause-opened g c =
    let m = c.in_ok-meta.meta in
    let records = c.args.records.now in
    let p = c.in_ok-made.made in
    first_opened c.args.schema.now c.args.cells m records p.queued p.stores p.next_rowset c.in_ok-meta.ensures.meta c.requires.none
    (made_of_none c.args.schema.now c.args.cells m records p.queued p.stores p.next_rowset c.in_ok-meta.ensures.meta c.requires.none c.new.result.items c.new.ensures.items (c.in_ok-made.ensures.made c.args.schema.now))
    (room_of_none c.args.schema.now c.args.cells m records p.queued p.stores p.next_rowset c.in_ok-meta.ensures.meta c.requires.none c.new.result.items c.new.ensures.items c.in_ok-made.ensures.room)

-- nothing is in the way of a log that has nothing
pub returns-in_err-made-clause-no_refusal : goal.returns-in_err-made-clause-no_refusal
returns-in_err-made-clause-no_refusal g c = λ reason is.
    let from = err_from_is_err_and c.from_residual-in_err-made.result c.from_residual-in_err-made.ensures.1 in
    let same : c.in_err-made.field-0.0 ≡ reason = cc in
    no_other_reason reason (λ other. late_of_none c.args.schema.now c.in_ok-meta.meta c.args.records.now c.in_ok-meta.ensures.meta c.requires.none c.new.result.items c.new.ensures.items c.in_err-made.field-0.0 reason same other (c.in_err-made.ensures.late))

pub returns-in_err-made-clause-fault : goal.returns-in_err-made-clause-fault
returns-in_err-made-clause-fault g c = λ is.
    let from = err_from_is_err_and c.from_residual-in_err-made.result c.from_residual-in_err-made.ensures.1 in
    let same : c.in_err-made.field-0.0 ≡ why.Fault = cc in
    absurd (late_of_none c.args.schema.now c.in_ok-meta.meta c.args.records.now c.in_ok-meta.ensures.meta c.requires.none c.new.result.items c.new.ensures.items c.in_err-made.field-0.0 why.Fault same (λ e. cc) (c.in_err-made.ensures.late))

pub returns-clause-stable : goal.returns-clause-stable
returns-clause-stable g c = λ told.
    stable_kept g.D.Disk.seen g.D.Disk.now g.D.Disk.leaves c.publish_first.new.store c.remove_others.new.disk (named_in c.in_ok-meta.meta.rowsets) (c.in_ok-publish_first.ensures.stable told) (c.remove_others.ensures.any_moment told) (c.remove_others.ensures.kept told)

-- nothing was read
pub returns-clause-files : goal.returns-clause-files
returns-clause-files g c = none_read c.in_ok-made.made.stores.files (subst (λ (l : List RowSetData). AreReadOf (map held_in l) c.in_ok-made.made.stores.files) c.new.ensures.items c.in_ok-made.ensures.files)
