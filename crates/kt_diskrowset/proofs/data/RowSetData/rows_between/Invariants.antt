use Rattle.std.specs.List.{between}
use Rattle.kt_diskrowset.specs.Data.{keys_of}
use Rattle.kt_diskrowset.specs.Page.{told_at, rows_under}
use Rattle.kt_diskrowset.specs.Gathered.{Holds}
use Rattle.kt_diskrowset.proofs.data.RowSetData.rows_between.Given as goal

abbrev pub invariant-rows : goal.invariant-rows
invariant-rows l = Holds l.columns (rows_under (told_at l.t l.self) (between l.start l.ordinal (keys_of l.self))) l.gathered
