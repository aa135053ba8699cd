use Rattle.std.proofs.Common.{◌≡◌, take}
use Rattle.kt_schema.specs.Columns.{key_kinds}
use Rattle.kt_schema.proofs.schema.kinds_of.Given as goal

abbrev pub invariant-loop-column : goal.invariant-loop-column
invariant-loop-column l = l.kinds.items ≡ key_kinds (take l.column-index l.columns)
