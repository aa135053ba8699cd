use Rattle.std.proofs.Common.{◌≡◌, ◌≤◌, ◌*◌, ◌++◌, drop, length}
use Rattle.std.specs.List.{concat}
use Rattle.kt_column.specs.Blocks.{texts_in}
use Rattle.kt_column.proofs.block.texts_of.Given as goal

abbrev pub invariant-loop-cell : goal.invariant-loop-cell
invariant-loop-cell l = record {
  so_far : l.texts ++ texts_in (drop l.cell-index l.cells) ≡ texts_in l.cells;
  small : length (concat l.texts) ≤ l.cell-index * 65536;
}
