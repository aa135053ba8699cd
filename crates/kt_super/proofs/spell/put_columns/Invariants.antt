use Rattle.std.proofs.Common.{◌≡◌, ◌++◌, length, take}
use Rattle.std.specs.Int.{w16, to_le_bytes}
use Rattle.std.specs.List.{flat_map}
use Rattle.kt_super.specs.Columns.{spelled_column}
use Rattle.kt_super.proofs.spell.put_columns.Given as goal

abbrev pub invariant-loop-column : goal.invariant-loop-column
invariant-loop-column l = l.out ≡ l.fn.out ++ (to_le_bytes w16 (length l.columns) ++ flat_map spelled_column (take l.column-index l.columns))
