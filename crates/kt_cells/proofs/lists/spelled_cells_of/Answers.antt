use Rattle.std.proofs.Common.{arith}
use Rattle.std.proofs.lemmas.Result.{err_from_is_err_and}
use Rattle.kt_cells.proofs.Walked.{counted, counted_fails, read_behind, fails_before, not_longer, parted}
use Rattle.kt_cells.proofs.lists.spelled_cells_of.Goals as goal

pub returns-in_err-count-clause-cells : goal.returns-in_err-count-clause-cells
returns-in_err-count-clause-cells c =
    let p = err_from_is_err_and c.from_residual.result c.from_residual.ensures.1 in
    rw (p.1, p.2) (counted_fails c.in_err-count.field-0.0 c.args.bytes.now c.in_err-count.ensures)

pub returns-in_err-rest-clause-cells : goal.returns-in_err-rest-clause-cells
returns-in_err-rest-clause-cells c =
    let p = err_from_is_err_and c.from_residual-in_err-rest.result c.from_residual-in_err-rest.ensures.1 in
    rw (p.1, p.2, counted c.args.bytes.now c.in_ok-count.count c.in_ok-count.rest.now c.in_ok-count.ensures) (fails_before c.in_err-rest.field-0.0 _ c.in_err-rest.ensures)

pub overflow_sub-bytes : goal.overflow_sub-bytes
overflow_sub-bytes c = not_longer c.args.bytes.now c.in_ok-rest.rest.now (λ i. omega (arith, c.type_inv.bytes i)) (read_behind c.args.bytes.now c.in_ok-count.count c.in_ok-count.rest.now c.in_ok-rest.rest.now c.in_ok-count.ensures c.in_ok-rest.ensures)

pub returns-clause-cells : goal.returns-clause-cells
returns-clause-cells c = (parted c.args.bytes.now c.in_ok-rest.rest.now c.split_at.result.0.now c.split_at.result.1.now (λ i. omega (arith, c.type_inv.bytes i)) (read_behind c.args.bytes.now c.in_ok-count.count c.in_ok-count.rest.now c.in_ok-rest.rest.now c.in_ok-count.ensures c.in_ok-rest.ensures) c.split_at.ensures.front c.split_at.ensures.back).0

pub returns-clause-spelled : goal.returns-clause-spelled
returns-clause-spelled c = (parted c.args.bytes.now c.in_ok-rest.rest.now c.split_at.result.0.now c.split_at.result.1.now (λ i. omega (arith, c.type_inv.bytes i)) (read_behind c.args.bytes.now c.in_ok-count.count c.in_ok-count.rest.now c.in_ok-rest.rest.now c.in_ok-count.ensures c.in_ok-rest.ensures) c.split_at.ensures.front c.split_at.ensures.back).1
