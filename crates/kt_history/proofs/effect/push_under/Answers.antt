use Rattle.std.proofs.Common.{◌∙◌, sym, ap, [], ◌∷◌, ◌++◌}
use Rattle.kt_base.specs.declared.cell.Cell.{Cell}
use mathlib.Core.List.{append-nil}
use Rattle.kt_history.proofs.Effects.{found_by_any}
use Rattle.kt_history.proofs.effect.push_under.Goals as goal

pub returns-then-has_column : goal.returns-then-has_column
returns-then-has_column c =
    let found = sym (found_by_any c.args.cell.now.0 c.args.columns.now) ∙ sym c.has_column.ensures ∙ c.if-has_column.true in
    rw (found, c.in_ok-push.ensures.items) (ap (λ (x : Cell). c.args.under.now.items ++ (c.args.cell.now.0, x) ∷ []) c.in_ok-copy.ensures)

pub returns : goal.returns
returns c =
    let found = sym (found_by_any c.args.cell.now.0 c.args.columns.now) ∙ sym c.has_column.ensures ∙ c.if-has_column.false in
    rw found (sym (append-nil c.args.under.now.items))
