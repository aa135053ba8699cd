use Rattle.std.proofs.Common.{◌≡◌}
use Rattle.std.specs.List.{between}
use Rattle.kt_diskrowset.specs.Data.{keys_of}
use Rattle.kt_diskrowset.specs.Page.{told_at, rows_under}
use Rattle.kt_diskrowset.proofs.data.RowSetData.all_rows.Given as goal

abbrev pub invariant-ordinals : goal.invariant-ordinals
invariant-ordinals l = l.rows.items ≡ rows_under (told_at l.t l.self) (between 0 l.ordinal (keys_of l.self))
