use Rattle.std.proofs.lemmas.Result.{IfOk-weaker}
use Rattle.kt_maint.proofs.Returns.{none_added}
use Rattle.kt_maint.proofs.since.write_with_changes.Goals as goal

pub returns-in-Ok-clause-late : goal.returns-in-Ok-clause-late
returns-in-Ok-clause-late g c =
    let e = c.in-Ok.ensures in
    IfOk-weaker c.write_late.result _ _ (λ done files. record { late = c.in-Ok.late.rowsets; told = e.tells; adds = e.adds; whole = e.whole; files = files }) c.write_late.ensures.files

pub returns-in-Err-clause-added : goal.returns-in-Err-clause-added
returns-in-Err-clause-added g c = none_added g.D.Disk.tells g.D.Disk.seen g.D.Disk.now g.D.Disk.leaves g.D.Disk.faults c.args.most c.args.lent.now
