use Rattle.std.proofs.Common.{length, sym, ◌∙◌, below_more, arith}
use Rattle.kt_schema.specs.First.{passes_at}
use Rattle.kt_schema.specs.Rows.{is_long}
use Rattle.kt_schema.proofs.Places.{first-none, first-found, passes_at-here}
use Rattle.kt_schema.proofs.row.long_cell.Goals as goal

pub returns-then-is_long : goal.returns-then-is_long
returns-then-is_long c =
    let xs = c.args.cells.now in
    let here = passes_at-here is_long xs c.loop-at.at c.index-cells-at.result (omega arith) c.index-cells-at.is ∙ sym c.is_long.ensures ∙ c.if-is_long.true in
    sym (first-found (passes_at is_long xs) (length xs) c.loop-at.at (omega arith) here c.loop-at.invariant)

pub loop-at-preserved : goal.loop-at-preserved
loop-at-preserved c =
    let xs = c.args.cells.now in
    below_more _ _ c.loop-at.invariant (passes_at-here is_long xs c.loop-at.at c.index-cells-at.result (omega arith) c.index-cells-at.is ∙ sym c.is_long.ensures ∙ c.if-is_long.false)

pub returns : goal.returns
returns c =
    let xs = c.args.cells.now in
    sym (first-none (passes_at is_long xs) (length xs) (λ k h. c.loop-at.invariant k (omega arith)))
