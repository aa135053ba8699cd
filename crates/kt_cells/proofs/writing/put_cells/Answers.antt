use Rattle.std.proofs.Common.{ℕ, [], sym, subst}
use Rattle.kt_base.specs.declared.cell.Cell.{Cell}
use Rattle.kt_cells.specs.Rules.{CellFits, FollowingCell}
use Rattle.kt_cells.proofs.Items.{each_at}
use Rattle.kt_cells.proofs.writing.put_cells.Goals as goal

pub put_listed_cell-requires : goal.put_listed_cell-requires
put_listed_cell-requires c = subst CellFits (sym c.of.ensures) (subst (λ (x : ℕ × Cell). CellFits x.1) (sym c.listed-item.is) (each_at FollowingCell c.args.cells.now [] c.cells.listed-index c.listed-item.result c.requires c.cells-test.true).cell)
