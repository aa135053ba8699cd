use Rattle.std.proofs.Common.{[]}
use Rattle.std.proofs.lemmas.Result.{err_from_is_err_and}
use Rattle.kt_bytes.specs.Reading.{many_at}
use Rattle.kt_cells.specs.Reading.{listed_cell_at}
use Rattle.kt_cells.proofs.Items.{goes_on, ends, is_done}
use Rattle.kt_cells.proofs.lists.counted_cells_of.Goals as goal

pub returns-in_err-cell : goal.returns-in_err-cell
returns-in_err-cell c =
    let p = err_from_is_err_and c.from_residual-in_err-cell.result c.from_residual-in_err-cell.ensures.1 in
    rw (p.1, p.2) (ends (listed_cell_at c.args.count) c.in_err-cell.field-0.0 c.cells.cells.items c.args.count c.cells.counter c.cells.rest.now (many_at (listed_cell_at c.args.count) c.args.count [] c.args.bytes.now) c.cells-test.true (rw c.deref.ensures.value at c.in_err-cell.ensures) c.cells.invariant)

pub cells-preserved : goal.cells-preserved
cells-preserved c = rw c.in_ok-push.ensures.items (goes_on (listed_cell_at c.args.count) c.cells.cells.items c.args.count c.cells.counter c.cells.rest.now c.in_ok-cell.cell c.in_ok-cell.after.now (many_at (listed_cell_at c.args.count) c.args.count [] c.args.bytes.now) c.cells-test.true (rw c.deref.ensures.value at c.in_ok-cell.ensures) c.cells.invariant)

pub returns : goal.returns
returns c = is_done (listed_cell_at c.args.count) c.cells.cells.items c.args.count c.cells.counter c.cells.rest.now (many_at (listed_cell_at c.args.count) c.args.count [] c.args.bytes.now) c.cells-test.false c.cells.invariant
