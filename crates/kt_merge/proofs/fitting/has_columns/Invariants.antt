use Rattle.std.proofs.Common.{drop}
use Rattle.kt_baseset.specs.Rows.{RowFits}
use Rattle.kt_merge.proofs.fitting.has_columns.Given as goal

abbrev pub invariant-columns : goal.invariant-columns
invariant-columns l = record {
  on : RowFits (drop l.at l.columns) (drop l.at l.row) → RowFits l.columns l.row;
  back : RowFits l.columns l.row → RowFits (drop l.at l.columns) (drop l.at l.row);
}
