use Rattle.std.proofs.Common.{◌≡◌, length}
use Rattle.kt_script.specs.Fit.{column_of}
use Rattle.kt_script.proofs.print.column_of.Given as goal

-- the columns before these have other ids
abbrev pub invariant-loop-column : goal.invariant-loop-column
invariant-loop-column l = column_of l.columns l.id ≡ column_of l.left l.id

abbrev pub decreases-loop-column : goal.decreases-loop-column
decreases-loop-column l = length l.left
