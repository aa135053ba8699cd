use Rattle.std.proofs.Common.{◌≡◌, take}
use Rattle.kt_baseset.specs.Rows.{HaveIds}
use Rattle.kt_baseset.specs.Tables.{columns_of}
use Rattle.kt_baseset.proofs.columns.columns_of.Given as goal

abbrev pub invariant-columns : goal.invariant-columns
invariant-columns l = record {
  made : l.columns.items ≡ columns_of (take l.j l.schema) l.rows;
  ids : HaveIds (take l.j l.schema);
}
