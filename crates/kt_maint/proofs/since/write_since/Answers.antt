use Rattle.std.proofs.Common.{Err, subst, ◌∙◌}
use Rattle.std.proofs.lemmas.Result.{IfOk-weaker}
use Rattle.kt_maint.specs.Outside.{AreWithChanges}
use Rattle.kt_maint.proofs.SinceAdded.{added_then, only_memory}
use Rattle.kt_maint.proofs.since.write_since.Goals as goal

pub returns-in-Ok-clause-added : goal.returns-in-Ok-clause-added
returns-in-Ok-clause-added g c =
    added_then g.D.Disk.tells g.D.Disk.seen g.D.Disk.now g.D.Disk.leaves g.D.Disk.faults c.args.most c.args.lent.now c.write_with_changes.new.lent c.merge_and_write.new.lent c.in_ok-first.first c.args.mems.since c.merge_and_write.result c.joined.result
    c.in_ok-first.ensures.added c.in_ok-first.ensures.late.files.rowset c.merge_and_write.ensures (λ fault. absurd (only_memory c.joined.result c.joined.ensures.memory fault))

pub returns-in-Ok-clause-since : goal.returns-in-Ok-clause-since
returns-in-Ok-clause-since g c =
    let changed = subst (λ l. AreWithChanges g.D.Disk.tells g.D.Disk.seen g.D.Disk.now g.D.Disk.leaves c.args.bound c.args.lent.now c.write_with_changes.new.lent l c.args.outputs.rowsets c.in_ok-first.first.rowsets) c.as_slice.ensures c.in_ok-first.ensures.late in
    IfOk-weaker c.joined.result _ _
    (λ done both. record { mid = c.write_with_changes.new.lent; firsts = c.in_ok-first.first; added = c.in_ok-first.ensures.added; changed = changed; more = c.in-Ok.more; written = c.in-Ok.ensures; small = c.is_within.ensures; both = both })
    c.joined.ensures.both

pub returns-clause-added : goal.returns-clause-added
returns-clause-added g c =
    added_then g.D.Disk.tells g.D.Disk.seen g.D.Disk.now g.D.Disk.leaves g.D.Disk.faults c.args.most c.args.lent.now c.write_with_changes.new.lent c.merge_and_write.new.lent c.in_ok-first.first c.args.mems.since c.merge_and_write.result (Err c.in-Err.no)
    c.in_ok-first.ensures.added c.in_ok-first.ensures.late.files.rowset c.merge_and_write.ensures (λ fault. c.in-Err.is ∙ fault)
