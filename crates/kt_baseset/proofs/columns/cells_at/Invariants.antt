use Rattle.std.proofs.Common.{◌≡◌, take}
use Rattle.kt_baseset.specs.Tables.{cells_at}
use Rattle.kt_baseset.proofs.columns.cells_at.Given as goal

abbrev pub invariant-rows : goal.invariant-rows
invariant-rows l = l.cells.items ≡ cells_at l.j (take l.row-index l.rows)
