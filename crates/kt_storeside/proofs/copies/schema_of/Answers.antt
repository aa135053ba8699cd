use Rattle.std.proofs.Common.{◌≡◌, ◌∙◌, ◌<◌, ◌++◌, length, ◌∷◌, [], List, take, get_or, sym, ap, arith}
use Rattle.std.proofs.lemmas.List.{take_more}
use Rattle.kt_schema.specs.declared.column.Column.{Column}
use Rattle.kt_storeside.proofs.copies.schema_of.Goals as goal

pub columns-preserved : goal.columns-preserved
columns-preserved c =
    let columns : List Column = c.args.schema.now in
    let i = c.columns.column-index in
    let x = c.column-item.result in
    let low : i < length columns = omega (arith, c.columns-test.true, ap (λ (l : List Column). length l) c.columns-column-items.ensures.value) in
    let is : x ≡ get_or columns i x = c.column-item.is ∙ ap (λ (l : List Column). get_or l i x) c.columns-column-items.ensures.value in
    c.in_ok-push.ensures.items ∙ ap (λ l. l ++ c.in_ok-column_of.field-0 ∷ []) c.columns.invariant ∙ ap (λ (y : Column). take i columns ++ y ∷ []) (c.in_ok-column_of.ensures ∙ is)
    ∙ sym (take_more columns i x low)
