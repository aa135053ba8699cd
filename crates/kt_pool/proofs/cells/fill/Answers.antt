use Rattle.kt_pool.proofs.Placing.{filled}
use Rattle.kt_pool.proofs.cells.fill.Goals as goal

pub returns : goal.returns
returns c =
    let w = c.write-after in
    filled c.args.cells.now w.new.cells c.args.first w.result c.args.bytes.now c.requires.chain w.ensures.kept c.requires.full w.ensures.next w.ensures.bytes w.ensures.frame
