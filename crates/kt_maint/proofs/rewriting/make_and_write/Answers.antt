use Rattle.kt_maint.proofs.OneOut.{written_of}
use Rattle.kt_maint.proofs.Returns.{none_added}
use Rattle.kt_maint.proofs.rewriting.make_and_write.Goals as goal

pub returns-in-Ok : goal.returns-in-Ok
returns-in-Ok g c =
    let m = c.in-Ok.ensures in
    record {
      added = c.write_one.ensures.added;
      files = written_of g.D.Disk.tells g.D.Disk.seen g.D.Disk.now g.D.Disk.leaves c.args.want.now c.args.read c.in-Ok.made c.args.lent.now c.write_one.new.lent m.same m.shape m.leaves m.whole c.write_one.result c.write_one.ensures.files;
    }

pub returns-in-Err : goal.returns-in-Err
returns-in-Err g c = record { added = none_added g.D.Disk.tells g.D.Disk.seen g.D.Disk.now g.D.Disk.leaves g.D.Disk.faults c.args.most c.args.lent.now; files = tt }
