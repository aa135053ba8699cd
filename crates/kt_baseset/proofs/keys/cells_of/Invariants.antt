use Rattle.std.proofs.Common.{◌≡◌, take}
use Rattle.kt_baseset.specs.Rows.{keys_in}
use Rattle.kt_baseset.specs.Tables.{key_cells}
use Rattle.kt_baseset.proofs.keys.cells_of.Given as goal

abbrev pub invariant-rows : goal.invariant-rows
invariant-rows l = l.cells.items ≡ key_cells (keys_in (take l.row-index l.rows))
