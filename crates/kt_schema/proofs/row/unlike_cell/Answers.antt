use Rattle.std.proofs.Common.{max, length, sym, ◌∙◌, below_more, arith}
use Rattle.std.specs.List.{slice_get}
use Rattle.kt_schema.specs.Rows.{is_unlike}
use Rattle.kt_schema.proofs.Places.{first-none, first-found, pair-here}
use Rattle.kt_schema.proofs.Rows.{unlike_end}
use Rattle.kt_schema.proofs.row.unlike_cell.Goals as goal

pub returns-then-is_unlike : goal.returns-then-is_unlike
returns-then-is_unlike c =
    let xs = c.args.columns.now in
    let ys = c.args.cells.now in
    let here = pair-here is_unlike xs ys c.loop-at.at c.index-columns-at.result c.index-cells-at.result (omega arith) c.index-columns-at.is (omega arith) c.index-cells-at.is ∙ sym c.is_unlike.ensures ∙ c.if-is_unlike.true in
    sym (first-found (λ k. is_unlike (slice_get xs k) (slice_get ys k)) (max (length xs) (length ys)) c.loop-at.at (omega arith) here c.loop-at.invariant)

pub loop-at-preserved : goal.loop-at-preserved
loop-at-preserved c =
    let xs = c.args.columns.now in
    let ys = c.args.cells.now in
    below_more _ _ c.loop-at.invariant (pair-here is_unlike xs ys c.loop-at.at c.index-columns-at.result c.index-cells-at.result (omega arith) c.index-columns-at.is (omega arith) c.index-cells-at.is ∙ sym c.is_unlike.ensures ∙ c.if-is_unlike.false)

pub returns-then-columns-cells : goal.returns-then-columns-cells
returns-then-columns-cells c =
    let xs = c.args.columns.now in
    let ys = c.args.cells.now in
    sym (first-none (λ k. is_unlike (slice_get xs k) (slice_get ys k)) (max (length xs) (length ys)) (λ k h. c.loop-at.invariant k (omega arith)))

pub returns-else-columns-cells : goal.returns-else-columns-cells
returns-else-columns-cells c =
    let xs = c.args.columns.now in
    let ys = c.args.cells.now in
    sym (first-found (λ k. is_unlike (slice_get xs k) (slice_get ys k)) (max (length xs) (length ys)) c.min-both.result (omega arith) (unlike_end xs ys c.min-both.result c.min-both.ensures c.if-columns-cells.false) (λ k h. c.loop-at.invariant k (omega arith)))
