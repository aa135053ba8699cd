use Rattle.std.proofs.Common.{arith, ◌-◌}
use Rattle.kt_history.proofs.Borrowed.{put_one}
use Rattle.kt_history.proofs.row_ref.put_all.Goals as goal

pub cells-preserved : goal.cells-preserved
cells-preserved c = record {
  below = omega (arith, c.cells.invariant.below);
  made = put_one c.args.more.now c.cells.at (c.cells.at - 1) _ c.cells.cells.items c.put_ref.new.cells.items c.args.cells.now.items (omega arith) c.cells.invariant.below c.cells.invariant.made c.in_ok-put_ref.ensures;
}
