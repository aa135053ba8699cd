use Rattle.kt_history.proofs.Covering.{lies_one}
use Rattle.kt_history.proofs.row_ref.put_under.Goals as goal

pub cells-preserved : goal.cells-preserved
cells-preserved c =
    lies_one c.args.more c.cells.rest c.in-Some.others c.args.cells.now.items c.cells.cells.items c.put_unless.new.cells.items c.in-Some.cell.0 c.in-Some.cell.1 c.cells.invariant c.in-Some.ensures.some c.in_ok-put_unless.ensures
