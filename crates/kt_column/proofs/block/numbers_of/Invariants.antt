use Rattle.std.proofs.Common.{◌≡◌, ◌++◌, drop}
use Rattle.kt_column.specs.Blocks.{numbers_in}
use Rattle.kt_column.proofs.block.numbers_of.Given as goal

abbrev pub invariant-loop-cell : goal.invariant-loop-cell
invariant-loop-cell l = l.numbers.items ++ numbers_in (drop l.cell-index l.cells) ≡ numbers_in l.cells
