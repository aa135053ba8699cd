use Rattle.std.proofs.Common.{length}
use Rattle.kt_column.proofs.Columns.{IsCut}
use Rattle.kt_column.proofs.column.fill.Given as goal

abbrev pub invariant-loop-rest : goal.invariant-loop-rest
invariant-loop-rest l = IsCut l.form l.cells l.column l.rest

abbrev pub decreases-loop-rest : goal.decreases-loop-rest
decreases-loop-rest l = length l.rest
