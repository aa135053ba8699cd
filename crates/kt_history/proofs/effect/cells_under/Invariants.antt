use Rattle.std.proofs.Common.{◌≡◌, ◌++◌, drop}
use Rattle.kt_history.specs.Rows.{cells_under}
use Rattle.kt_history.proofs.effect.cells_under.Given as goal

-- the cells so far and those of what is left are those of all
abbrev pub invariant-loop-cell : goal.invariant-loop-cell
invariant-loop-cell l = l.under.items ++ cells_under l.columns (drop l.cell-index l.row) ≡ cells_under l.columns l.row
