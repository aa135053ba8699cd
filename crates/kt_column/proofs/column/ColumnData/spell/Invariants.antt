use Rattle.std.proofs.Common.{take}
use Rattle.kt_column.specs.Columns.{SpellsColumn, cells_in}
use Rattle.kt_column.proofs.column.ColumnData.spell.Given as goal

abbrev pub invariant-loop-block : goal.invariant-loop-block
invariant-loop-block l = SpellsColumn l.self.form (cells_in (take l.block-index l.block-items)) l.out.items
