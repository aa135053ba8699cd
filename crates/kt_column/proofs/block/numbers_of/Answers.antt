use Rattle.kt_column.proofs.Weaving.{number_step}
use Rattle.kt_column.proofs.block.numbers_of.Goals as goal

pub loop-cell-preserved : goal.loop-cell-preserved
loop-cell-preserved c = number_step c.args.cells.now c.loop-cell.cell-index c.cell-item.result c.loop-cell.numbers.items _ _ c.loop-cell-test.true c.cell-item.is c.in-Ok.ensures c.loop-cell.invariant
