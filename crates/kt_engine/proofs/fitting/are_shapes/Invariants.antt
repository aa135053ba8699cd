use Rattle.std.proofs.Common.{drop}
use Rattle.kt_engine.proofs.TableCells.{RiseFit}
use Rattle.kt_engine.proofs.fitting.are_shapes.Given as goal

abbrev pub invariant-columns : goal.invariant-columns
invariant-columns l = RiseFit l.least (drop l.column-index l.columns) → RiseFit 0 l.columns
