use Rattle.std.proofs.Common.{◌≤◌, length, drop}
use Rattle.kt_cells.specs.Borrowed.{cells_in}
use Rattle.kt_history.proofs.Filled.{Fills}
use Rattle.kt_history.proofs.row_ref.lay_rising.Given as goal

abbrev pub invariant-cells : goal.invariant-cells
invariant-cells l = record {
  bound : l.at ≤ length l.over;
  fills : Fills l.cells (cells_in l.over) (cells_in (drop l.at l.over)) l.own-index (cells_in l.into.items) l.least;
}
