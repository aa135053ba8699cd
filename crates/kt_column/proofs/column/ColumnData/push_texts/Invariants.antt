use Rattle.std.proofs.Common.{◌≡◌, ◌++◌, take}
use Rattle.kt_column.specs.Blocks.{texts_in}
use Rattle.kt_column.specs.Columns.{cells_in}
use Rattle.kt_column.proofs.column.ColumnData.push_texts.Given as goal

abbrev pub invariant-loop-block : goal.invariant-loop-block
invariant-loop-block l = l.out ≡ l.initial.out ++ texts_in (cells_in (take l.block-index l.block-items))
