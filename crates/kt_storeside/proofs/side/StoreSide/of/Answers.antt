use Rattle.kt_storeside.proofs.Sides.{first_stands}
use Rattle.kt_storeside.proofs.side.StoreSide.of.Goals as goal

pub invariant_of-result : goal.invariant_of-result
invariant_of-result g c =
    let r = c.requires in
    rw (c.of-3.ensures, c.of-4.ensures, c.of-5.ensures, c.of-6.ensures)
    (first_stands g.D.Disk.tells g.D.Disk.seen g.D.Disk.now g.D.Disk.leaves g.D.Disk.faults c.args.meta c.args.next_rowset c.args.next_file c.args.device c.args.mem r.rules r.rowsets r.files r.publishes r.vacant)
