use Rattle.std.proofs.Common.{◌≡◌, take}
use Rattle.kt_storeside.proofs.copies.schema_of.Given as goal

abbrev pub invariant-columns : goal.invariant-columns
invariant-columns l = l.columns.items ≡ take l.column-index l.schema
