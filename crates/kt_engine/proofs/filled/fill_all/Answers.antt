use Rattle.kt_engine.proofs.TableCells.{filled_more}
use Rattle.kt_engine.proofs.filled.fill_all.Goals as goal

pub changes-preserved : goal.changes-preserved
changes-preserved c = record {
  filled = filled_more c.args.fill.now c.args.changes.now c.changes.out c.push_filled.new.out c.changes.at c.changes.invariant.filled c.in_ok-push_filled.ensures.filled;
  table = c.in_ok-push_filled.ensures.table c.changes.invariant.table;
}
