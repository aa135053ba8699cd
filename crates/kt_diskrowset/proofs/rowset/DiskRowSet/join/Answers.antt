use Rattle.kt_diskrowset.proofs.Rowsets.{joined}
use Rattle.kt_diskrowset.proofs.rowset.DiskRowSet.join.Goals as goal

pub returns : goal.returns
returns c = joined c.args.self.now c.apply_reserved.new.self c.args.pool.now c.apply_reserved.new.pool c.args.ordinal c.args.ts c.args.op.now c.args.change c.requires.stands (c.share_law.ensures c.args.op.now) c.requires.reserved c.apply_reserved.ensures.joins
