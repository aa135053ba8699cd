use Rattle.std.proofs.Common.{length, inl, inr, sym, ap, ◌∙◌, below_more, arith}
use Rattle.std.specs.List.{slice_get}
use Rattle.std.proofs.lemmas.Option.{slice_get_past}
use Rattle.std.proofs.lemmas.Bool.{cases_lt}
use Rattle.kt_schema.specs.Rows.{is_forbidden}
use Rattle.kt_schema.proofs.Places.{first-none, first-found, pair-here}
use Rattle.kt_schema.proofs.row.forbidden_null.Goals as goal

pub returns-then-is_forbidden : goal.returns-then-is_forbidden
returns-then-is_forbidden c =
    let xs = c.args.columns.now in
    let ys = c.args.cells.now in
    let here = pair-here is_forbidden xs ys c.loop-at.at c.index-columns-at.result c.index-cells-at.result (omega arith) c.index-columns-at.is (omega arith) c.index-cells-at.is ∙ sym c.is_forbidden.ensures ∙ c.if-is_forbidden.true in
    sym (first-found (λ k. is_forbidden (slice_get xs k) (slice_get ys k)) (length ys) c.loop-at.at (omega arith) here c.loop-at.invariant)

pub loop-at-preserved : goal.loop-at-preserved
loop-at-preserved c =
    let xs = c.args.columns.now in
    let ys = c.args.cells.now in
    below_more _ _ c.loop-at.invariant (pair-here is_forbidden xs ys c.loop-at.at c.index-columns-at.result c.index-cells-at.result (omega arith) c.index-columns-at.is (omega arith) c.index-cells-at.is ∙ sym c.is_forbidden.ensures ∙ c.if-is_forbidden.false)

pub returns : goal.returns
returns c =
    let xs = c.args.columns.now in
    let ys = c.args.cells.now in
    sym (first-none (λ k. is_forbidden (slice_get xs k) (slice_get ys k)) (length ys) (λ k h. elim (cases_lt k (length xs)) [
      | inl lt ↦ c.loop-at.invariant k (omega arith)
      | inr past ↦ ap (λ o. is_forbidden o (slice_get ys k)) (slice_get_past xs k past)
    ]))
