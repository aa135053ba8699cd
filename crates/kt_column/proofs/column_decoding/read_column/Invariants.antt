use Rattle.std.proofs.Common.{◌-◌, length}
use Rattle.kt_column.proofs.Progress.{Progress}
use Rattle.kt_column.proofs.column_decoding.read_column.Given as goal

abbrev pub invariant-parts : goal.invariant-parts
invariant-parts l = Progress l.form l.rows l.bytes l.column l.used

abbrev pub decreases-parts : goal.decreases-parts
decreases-parts l = l.rows - length l.column.cells
