use Rattle.std.proofs.Common.{◌≤◌, length, drop}
use Rattle.kt_cells.specs.Borrowed.{cells_in}
use Rattle.kt_joblaws.specs.Apart.{ArePart}
use Rattle.kt_engine.proofs.fitting.are_part.Given as goal

abbrev pub invariant-columns : goal.invariant-columns
invariant-columns l = record {
  inside : l.at ≤ length l.cells;
  on : ArePart (drop l.column-index l.columns) (drop l.at (cells_in l.cells)) → ArePart l.columns (cells_in l.cells);
}
