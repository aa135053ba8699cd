use Rattle.std.proofs.Common.{◌≡◌, List, sym, ap, subst, ◌∙◌}
use Rattle.std.proofs.lemmas.Bool.{OnTrue_at}
use Rattle.std.proofs.lemmas.Result.{on_ok_weaker}
use Rattle.kt_baseset.specs.declared.schema.ColumnShape.{ColumnShape}
use Rattle.kt_baseset.specs.Rows.{AllFit}
use Rattle.kt_engine.proofs.Entries.{of_columns}
use Rattle.kt_engine.proofs.telling.check_rowset.Goals as goal

-- its base rows are of its columns, which are these
pub returns : goal.returns
returns c =
    let columns = c.args.columns.now in
    let d = c.args.rowset.now in
    let own : d.base.set.value.schema ≡ columns = ap (λ s. s.schema) (sym c.deref.ensures) ∙ sym c.in_ok-own.ensures ∙ sym c.as_slice.ensures ∙ OnTrue_at c.if-not-are_same.false c.are_same.ensures ∙ c.as_slice-2.ensures in
    let base = subst (λ s. AllFit s.schema s.rows) c.deref-2.ensures c.rows.ensures.base.cells in
    let rows : AllFit columns d.base.set.value.rows = subst (λ (l : List ColumnShape). AllFit l d.base.set.value.rows) own base in
    on_ok_weaker c.check_records.result (of_columns columns _ _ _ d _ _ _ rows c.as_slice-3.ensures c.as_slice-5.ensures c.as_slice-7.ensures c.as_slice-4.ensures c.as_slice-6.ensures c.as_slice-8.ensures c.in_ok-check_files.ensures c.in_ok-check_files-2.ensures) c.check_records.ensures
