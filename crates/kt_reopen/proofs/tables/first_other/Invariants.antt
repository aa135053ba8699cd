use Rattle.std.proofs.Common.{take}
use Rattle.kt_reopen.specs.Tables.{AllAreLike}
use Rattle.kt_reopen.proofs.tables.first_other.Given as goal

abbrev pub invariant-columns : goal.invariant-columns
invariant-columns l = AllAreLike (take l.at l.columns) (take l.at l.others)
