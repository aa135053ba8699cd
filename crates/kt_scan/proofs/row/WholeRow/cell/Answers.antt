use Rattle.std.proofs.Common.{List, sym, ap, ◌∙◌, map}
use Rattle.std.specs.Prelude.{unwrap_or}
use Rattle.std.specs.Ordering.{nat_cmp}
use Rattle.std.specs.FinMap.Entries.{find}
use Rattle.kt_base.specs.declared.cell.Cell.TheVariants.{Null}
use Rattle.kt_base.specs.declared.cell_ref.CellRef.{CellRef}
use Rattle.kt_base.specs.Borrowed.{cell_in}
use Rattle.kt_scan.specs.Encoded.{ids_with}
use Rattle.kt_scan.proofs.Named.{found_first, found_later, read_or_null}
use Rattle.kt_scan.proofs.row.WholeRow.cell.Goals as goal

pub returns-in-Some : goal.returns-in-Some
returns-in-Some c =
    sym (found_first c.args.id _ _ (cell_in c.in-Some.cell) Null (sym (c.in-Some.ensures ∙ ap (λ (key : List CellRef). find nat_cmp c.args.id (ids_with c.args.columns.now (map cell_in key))) c.deref.ensures.value)))

pub returns-in-None : goal.returns-in-None
returns-in-None c =
    ap cell_in c.unwrap_or.ensures ∙ read_or_null c.other_cell.result ∙ ap (λ o. unwrap_or o Null) (c.other_cell.ensures ∙ ap (find nat_cmp c.args.id) c.as_slice.ensures)
    ∙ sym (found_later c.args.id _ _ Null (sym (c.in-None.ensures ∙ ap (λ (key : List CellRef). find nat_cmp c.args.id (ids_with c.args.columns.now (map cell_in key))) c.deref.ensures.value)))
