use Rattle.std.proofs.Common.{◌≡◌, length}
use Rattle.kt_script.specs.Writes.{column_named}
use Rattle.kt_script.proofs.names.find_column.Given as goal

-- the columns before these have other names
abbrev pub invariant-loop-column : goal.invariant-loop-column
invariant-loop-column l = column_named l.columns l.name ≡ column_named l.left l.name

abbrev pub decreases-loop-column : goal.decreases-loop-column
decreases-loop-column l = length l.left
