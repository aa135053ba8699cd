use Rattle.std.proofs.Common.{◌≡◌, drop}
use Rattle.kt_rowfiles.specs.Fitting.{rows_fit, undos_fit}
use Rattle.kt_diskrowset.specs.Rows.{rows_of}
use Rattle.kt_diskrowset.specs.Data.{files_in}
use Rattle.kt_diskrowset.proofs.data.RowSetData.undos_fit.Given as goal

abbrev pub invariant-rows : goal.invariant-rows
invariant-rows l = rows_fit (files_in l.self) l.ordinal (drop l.ordinal (rows_of l.self.base.set.value.rows)) ≡ undos_fit (files_in l.self)
