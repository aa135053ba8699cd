use Rattle.kt_maint.proofs.OneOut.{added_as, kept_fault, kept_files}
use Rattle.kt_maint.proofs.Returns.{none_added}
use Rattle.kt_maint.proofs.reworking.write_kept.Goals as goal

pub returns-in-Ok : goal.returns-in-Ok
returns-in-Ok g c = record {
  added = added_as g.D.Disk.tells g.D.Disk.seen g.D.Disk.now g.D.Disk.leaves g.D.Disk.faults c.args.most c.args.lent.now c.make_and_write.new.lent c.make_and_write.result c.kept.result (kept_fault c.make_and_write.result c.kept.result c.kept.ensures.no) c.make_and_write.ensures.added;
  files = kept_files _ c.make_and_write.result c.in-Ok.fresh c.args.read.fresh c.in-Ok.ensures c.make_and_write.ensures.files c.kept.result c.kept.ensures.kept;
}

pub returns-in-Err : goal.returns-in-Err
returns-in-Err g c = record { added = none_added g.D.Disk.tells g.D.Disk.seen g.D.Disk.now g.D.Disk.leaves g.D.Disk.faults c.args.most c.args.lent.now; files = tt }
