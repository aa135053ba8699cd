use Rattle.std.proofs.Common.{◌∙◌, sym, ap, subst}
use Rattle.std.proofs.lemmas.Bool.{OnTrue_at}
use Rattle.std.proofs.lemmas.Result.{on_ok_weaker}
use Rattle.kt_cells.specs.Rules.{CellListFits}
use Rattle.kt_cells.specs.Spelling.{cell_list}
use Rattle.kt_history.specs.AsBytes.{change_with}
use Rattle.kt_history.specs.Rows.{Row}
use Rattle.kt_joblaws.specs.Apart.{ArePart, IsOfTable}
use Rattle.kt_joblaws.proofs.OfTable.{part_spelled}
use Rattle.kt_engine.proofs.TableCells.{spelled_back}
use Rattle.kt_engine.proofs.filled.spell_change.Goals as goal

pub spell-requires : goal.spell-requires
spell-requires c =
    let part = subst (ArePart c.args.columns.now) c.as_slice.ensures (OnTrue_at c.if-not-are_of_table.false c.are_of_table.ensures.part) in
    subst CellListFits (sym c.as_slice-2.ensures) (part_spelled c.args.columns.now c.set_cells.new.row c.requires part)

pub returns-clause-filled : goal.returns-clause-filled
returns-clause-filled c =
    let row = c.set_cells.new.row in
    let part = subst (ArePart c.args.columns.now) c.as_slice.ensures (OnTrue_at c.if-not-are_of_table.false c.are_of_table.ensures.part) in
    let fits = part_spelled c.args.columns.now row c.requires part in
    on_ok_weaker c.spell.result (λ is. ap (change_with c.args.change.kind) (spelled_back row c.spell.new.bytes.added fits (is ∙ ap cell_list c.as_slice-2.ensures)) ∙ c.in_ok-set_cells.ensures) c.spell.ensures

pub returns-clause-table : goal.returns-clause-table
returns-clause-table c =
    let columns = c.args.columns.now in
    let row = c.set_cells.new.row in
    let part = subst (ArePart columns) c.as_slice.ensures (OnTrue_at c.if-not-are_of_table.false c.are_of_table.ensures.part) in
    let fits = part_spelled columns row c.requires part in
    let table = subst (λ (r : Row). IsOfTable columns (change_with c.args.change.kind r)) c.as_slice.ensures (OnTrue_at c.if-not-are_of_table.false c.are_of_table.ensures.table) in
    on_ok_weaker c.spell.result
    (λ is. subst (λ (r : Row). IsOfTable columns (change_with c.args.change.kind r)) (sym (spelled_back row c.spell.new.bytes.added fits (is ∙ ap cell_list c.as_slice-2.ensures))) table)
    c.spell.ensures
