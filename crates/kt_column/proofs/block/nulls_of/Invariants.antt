use Rattle.std.proofs.Common.{◌≡◌, take, map}
use Rattle.kt_column.specs.Blocks.{is_null}
use Rattle.kt_column.proofs.block.nulls_of.Given as goal

abbrev pub invariant-loop-cell : goal.invariant-loop-cell
invariant-loop-cell l = l.nulls ≡ map is_null (take l.cell-index l.cells)
