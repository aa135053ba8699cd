use Rattle.std.proofs.Common.{arith, map}
use Rattle.kt_base.specs.Borrowed.{cell_in}
use Rattle.kt_scan.proofs.WholeRows.{pushed_all}
use Rattle.kt_scan.proofs.tested.push_key.Goals as goal

pub returns : goal.returns
returns c = pushed_all (map cell_in c.loop-cell.cells.items) _ c.loop-cell.rest.now c.args.key.now c.loop-cell.cell-index (omega arith) c.loop-cell.invariant
