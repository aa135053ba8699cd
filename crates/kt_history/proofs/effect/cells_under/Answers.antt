use Rattle.kt_history.proofs.Effects.{under_more}
use Rattle.kt_history.proofs.effect.cells_under.Goals as goal

pub loop-cell-preserved : goal.loop-cell-preserved
loop-cell-preserved c = under_more c.args.columns.now c.loop-cell.under.items _ c.args.row.now _ _ c.loop-cell-test.true c.cell-item.is c.loop-cell.invariant c.in_ok-push_under.ensures
