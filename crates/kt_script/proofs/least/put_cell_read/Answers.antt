use Rattle.std.proofs.Common.{sym, subst, ◌∙◌}
use Rattle.kt_base.specs.Borrowed.{cell_in as borrowed}
use Rattle.kt_cells.specs.Rules.{CellFits}
use Rattle.kt_script.proofs.CellSpelled.{literal_fits, value_fits}
use Rattle.kt_script.proofs.least.put_cell_read.Goals as goal

pub put_listed_cell-requires : goal.put_listed_cell-requires
put_listed_cell-requires c = literal_fits c.args.column.now.kind c.args.text.now (borrowed c.in-Some.cell) c.in-Some.ensures

pub put_listed_cell-requires-2 : goal.put_listed_cell-requires-2
put_listed_cell-requires-2 c = subst CellFits (sym (c.of.ensures ∙ c.in_ok-cell.ensures.cell)) (value_fits c.args.column.now.kind c.args.text.now)
