use Rattle.std.proofs.Common.{◌≡◌, ◌++◌, take}
use Rattle.kt_baseset.specs.Asked.{cells_asked}
use Rattle.kt_baseset.specs.Tables.{row_at}
use Rattle.kt_baseset.proofs.asked.push_asked.Given as goal

abbrev pub invariant-asked : goal.invariant-asked
invariant-asked l = l.cells.items ≡ l.initial.cells.items ++ cells_asked (take l.column-index l.asked) (row_at l.columns l.i)
