use Rattle.std.proofs.Common.{length, take, sym, ◌∙◌, below_more, arith}
use Rattle.std.specs.List.{list_any}
use Rattle.kt_schema.specs.Columns.{is_again, same_name}
use Rattle.kt_schema.proofs.Places.{first-none, first-found, passes_at-here}
use Rattle.kt_schema.proofs.schema.again_column.Goals as goal

pub returns-then-has_name_of : goal.returns-then-has_name_of
returns-then-has_name_of c =
    let xs = c.args.columns.now in
    let here = passes_at-here (λ x. list_any (λ d. same_name x d) (take c.loop-at.at xs)) xs c.loop-at.at c.index-columns-at.result (omega arith) c.index-columns-at.is ∙ sym c.has_name_of.ensures ∙ c.if-has_name_of.true in
    sym (first-found (is_again xs) (length xs) c.loop-at.at (omega arith) here c.loop-at.invariant)

pub loop-at-preserved : goal.loop-at-preserved
loop-at-preserved c =
    let xs = c.args.columns.now in
    below_more _ _ c.loop-at.invariant (passes_at-here (λ x. list_any (λ d. same_name x d) (take c.loop-at.at xs)) xs c.loop-at.at c.index-columns-at.result (omega arith) c.index-columns-at.is ∙ sym c.has_name_of.ensures ∙ c.if-has_name_of.false)

pub returns : goal.returns
returns c =
    let xs = c.args.columns.now in
    sym (first-none (is_again xs) (length xs) (λ k h. c.loop-at.invariant k (omega arith)))
