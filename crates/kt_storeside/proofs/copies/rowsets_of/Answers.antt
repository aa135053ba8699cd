use Rattle.std.proofs.Common.{◌≡◌, ◌∙◌, ◌<◌, ◌++◌, length, ◌∷◌, [], List, take, get_or, sym, ap, arith}
use Rattle.std.proofs.lemmas.List.{take_more}
use Rattle.kt_super.specs.declared.meta.MetaRowset.{MetaRowset}
use Rattle.kt_storeside.proofs.copies.rowsets_of.Goals as goal

pub rowsets-preserved : goal.rowsets-preserved
rowsets-preserved c =
    let rowsets : List MetaRowset = c.args.rowsets.now in
    let i = c.rowsets.rowset-index in
    let x = c.rowset-item.result in
    let low : i < length rowsets = omega (arith, c.rowsets-test.true, ap (λ (l : List MetaRowset). length l) c.as_slice-rowset-items.ensures) in
    let is : x ≡ get_or rowsets i x = c.rowset-item.is ∙ ap (λ (l : List MetaRowset). get_or l i x) c.as_slice-rowset-items.ensures in
    c.in_ok-push.ensures.items ∙ ap (λ l. l ++ c.in_ok-rowset_of.field-0 ∷ []) c.rowsets.invariant ∙ ap (λ (y : MetaRowset). take i rowsets ++ y ∷ []) (c.in_ok-rowset_of.ensures ∙ is)
    ∙ sym (take_more rowsets i x low)
