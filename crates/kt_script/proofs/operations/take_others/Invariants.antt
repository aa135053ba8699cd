use Rattle.std.proofs.Common.{◌≡◌, ◌++◌, min, length, drop}
use Rattle.kt_script.specs.Writes.{cells_no, cells_of, under, op_in, later_in}
use Rattle.kt_script.proofs.operations.take_others.Given as goal

-- what the columns that are left find in the words that are left
abbrev pub invariant-loop-column : goal.invariant-loop-column
invariant-loop-column l = record {
  cells : l.cells.items ++ under (drop l.column-index l.columns) (cells_of (drop l.column-index l.columns) (op_in l.left)) ≡ under l.columns (cells_of l.columns (op_in l.rest));
  behind : drop (length (drop l.column-index l.columns)) (op_in l.left) ≡ drop (length l.columns) (op_in l.rest);
  later : later_in l.left ≡ later_in l.rest;
  least : min l.no (cells_no (drop l.column-index l.columns) (op_in l.left)) ≡ min l.fn.no (cells_no l.columns (op_in l.rest));
}
