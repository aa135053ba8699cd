use Rattle.std.proofs.Common.{ℕ, ◌+◌, subst, sym}
use Rattle.std.proofs.lemmas.Result.{err_from_is_err_and}
use Rattle.kt_base.specs.Borrowed.{cell_in}
use Rattle.kt_cells.proofs.Walked.{Walked, walked_none, walked_more, walked_all, walked_no_more}
use Rattle.kt_cells.proofs.lists.behind_cells.Goals as goal

pub cells-init : goal.cells-init
cells-init c = walked_none c.args.count c.args.bytes.now

pub returns-in_err-listed : goal.returns-in_err-listed
returns-in_err-listed c =
    let p = err_from_is_err_and c.from_residual.result c.from_residual.ensures.1 in
    rw (p.1, p.2) (walked_no_more c.in_err-listed.field-0.0 c.args.count c.cells.at c.cells.least c.args.bytes.now c.cells.rest.now c.cells-test.true c.in_err-listed.ensures c.cells.invariant)

pub cells-preserved : goal.cells-preserved
cells-preserved c =
    subst (λ (id : ℕ). Walked c.args.count (c.cells.at + 1) (id + 1) c.args.bytes.now c.in_ok-listed.after.now) (sym c.from-least.ensures)
    (walked_more c.args.count c.cells.at c.cells.least c.args.bytes.now c.cells.rest.now c.in_ok-listed.listed.0 (cell_in c.in_ok-listed.listed.1) c.in_ok-listed.after.now c.cells-test.true c.in_ok-listed.ensures c.cells.invariant)

pub returns : goal.returns
returns c = walked_all c.args.count c.cells.at c.cells.least c.args.bytes.now c.cells.rest.now c.cells-test.false c.cells.invariant
