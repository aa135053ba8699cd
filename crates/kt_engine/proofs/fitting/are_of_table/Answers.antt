use Rattle.std.proofs.Common.{sym, subst}
use Rattle.std.specs.Bool.{OnTrue}
use Rattle.std.proofs.lemmas.Bool.{OnTrue_at, OnTrue_from}
use Rattle.kt_cells.specs.Borrowed.{cells_in}
use Rattle.kt_history.specs.AsBytes.{change_with}
use Rattle.kt_history.specs.declared.target.Kindly.{Kindly}
use Rattle.kt_baseset.specs.Rows.{RowFits}
use Rattle.kt_joblaws.specs.Apart.{IsOfTable}
use Rattle.kt_engine.proofs.TableCells.{refs_whole}
use Rattle.kt_engine.proofs.fitting.are_of_table.Goals as goal

pub returns-then-cells-columns-clause-table : goal.returns-then-cells-columns-clause-table
returns-then-cells-columns-clause-table c =
    let columns = c.args.columns.now in
    let cells = c.args.cells.now in
    subst (λ (k : Kindly). OnTrue c.are_part.result (IsOfTable columns (change_with k (cells_in cells)))) (sym c.in-Ins.is)
    (OnTrue_from c.are_part.result (RowFits columns (cells_in cells)) (λ is. refs_whole columns cells c.if-cells-columns.true (OnTrue_at is c.are_part.ensures)))
