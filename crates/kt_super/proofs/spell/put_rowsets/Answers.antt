use Rattle.std.specs.Int.{w32, to_le_bytes}
use Rattle.std.proofs.Common.{length}
use Rattle.kt_super.specs.Rowsets.{spelled_rowset}
use Rattle.kt_super.proofs.Appends.{item_more}
use Rattle.kt_super.proofs.spell.put_rowsets.Goals as goal

pub loop-rowset-preserved : goal.loop-rowset-preserved
loop-rowset-preserved c =
    item_more spelled_rowset c.args.rowsets.now c.loop-rowset.rowset-index c.rowset-item.result c.args.out.now c.loop-rowset.out c.put_rowset.new.out (to_le_bytes w32 (length c.args.rowsets.now))
    c.loop-rowset-test.true c.rowset-item.is c.loop-rowset.invariant c.in-Ok-put_rowset.ensures
