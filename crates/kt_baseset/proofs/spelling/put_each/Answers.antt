use Rattle.kt_baseset.proofs.Whole.{adds_more}
use Rattle.kt_baseset.proofs.spelling.put_each.Goals as goal

pub columns-preserved : goal.columns-preserved
columns-preserved c = adds_more c.args.columns.now c.columns.column-index c.column-item.result c.args.out.now c.columns.out c.put_one.new.out c.columns-test.true c.column-item.is c.columns.invariant c.in_ok-put_one.ensures
