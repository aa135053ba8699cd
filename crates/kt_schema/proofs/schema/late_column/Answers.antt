use Rattle.std.proofs.Common.{◌≡◌, ℕ, ◌<◌, ◌&&◌, not, List, length, take, get_or, ap, sym, ◌∙◌, below_more, arith}
use Rattle.std.specs.List.{list_any}
use Rattle.std.proofs.lemmas.List.Folds.{list_any_more}
use Rattle.kt_schema.specs.declared.column.Column.{Column}
use Rattle.kt_schema.specs.Columns.{is_late}
use Rattle.kt_schema.proofs.Places.{first-none, first-found, passes_at-here}
use Rattle.kt_schema.proofs.schema.late_column.Goals as goal

late-here : (xs : List Column) (k : ℕ) (x : Column) → k < length xs → x ≡ get_or xs k x → is_late xs k ≡ (x.key && list_any (λ c. not c.key) (take k xs))
late-here xs k x within is = ap (λ b. b && list_any (λ c. not c.key) (take k xs)) (passes_at-here (λ c. c.key) xs k x within is)

pub returns-then-is_late : goal.returns-then-is_late
returns-then-is_late c =
    let xs = c.args.columns.now in
    let x = c.index-columns-at.result in
    let here = late-here xs c.loop-at.at x (omega arith) c.index-columns-at.is ∙ ap (λ b. x.key && b) (sym c.loop-at.invariant.0) ∙ sym c.is_late.ensures ∙ c.if-is_late.true in
    sym (first-found (is_late xs) (length xs) c.loop-at.at (omega arith) here c.loop-at.invariant.1)

pub loop-at-preserved : goal.loop-at-preserved
loop-at-preserved c =
    let xs = c.args.columns.now in
    let x = c.index-columns-at.result in
    let other = list_any_more (λ (d : Column). not d.key) xs c.loop-at.at x (omega arith) in
    (cc, below_more _ _ c.loop-at.invariant.1 (late-here xs c.loop-at.at x (omega arith) c.index-columns-at.is ∙ ap (λ b. x.key && b) (sym c.loop-at.invariant.0) ∙ sym c.is_late.ensures ∙ c.if-is_late.false))

pub returns : goal.returns
returns c =
    let xs = c.args.columns.now in
    sym (first-none (is_late xs) (length xs) (λ k h. c.loop-at.invariant.1 k (omega arith)))
