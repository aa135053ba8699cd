use Rattle.std.proofs.Common.{length, sym, ◌∙◌, below_more, arith}
use Rattle.kt_schema.specs.First.{passes_at}
use Rattle.kt_schema.specs.Columns.{is_weak}
use Rattle.kt_schema.proofs.Places.{first-none, first-found, passes_at-here}
use Rattle.kt_schema.proofs.schema.weak_column.Goals as goal

pub returns-then-is_weak : goal.returns-then-is_weak
returns-then-is_weak c =
    let xs = c.args.columns.now in
    let here = passes_at-here is_weak xs c.loop-at.at c.index-columns-at.result (omega arith) c.index-columns-at.is ∙ sym c.is_weak.ensures ∙ c.if-is_weak.true in
    sym (first-found (passes_at is_weak xs) (length xs) c.loop-at.at (omega arith) here c.loop-at.invariant)

pub loop-at-preserved : goal.loop-at-preserved
loop-at-preserved c =
    let xs = c.args.columns.now in
    below_more _ _ c.loop-at.invariant (passes_at-here is_weak xs c.loop-at.at c.index-columns-at.result (omega arith) c.index-columns-at.is ∙ sym c.is_weak.ensures ∙ c.if-is_weak.false)

pub returns : goal.returns
returns c =
    let xs = c.args.columns.now in
    sym (first-none (passes_at is_weak xs) (length xs) (λ k h. c.loop-at.invariant k (omega arith)))
