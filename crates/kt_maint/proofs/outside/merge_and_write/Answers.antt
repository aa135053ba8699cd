use Rattle.kt_maint.proofs.GoingOut.{none_written}
use Rattle.kt_maint.proofs.outside.merge_and_write.Goals as goal

pub returns-in-Err : goal.returns-in-Err
returns-in-Err g c = none_written g.D.Disk.tells g.D.Disk.seen g.D.Disk.now g.D.Disk.leaves g.D.Disk.faults c.args.most c.args.input.now c.args.lent.now c.is_within.ensures

pub returns : goal.returns
returns g c =
    let e = c.in-Ok.ensures in
    c.write_merged.ensures c.args.input.now (record { outputs = e.outputs; keys = e.keys; rows = e.rows; alike = e.alike; sound = e.sound })
