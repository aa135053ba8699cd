use Rattle.std.proofs.Common.{◌≡◌, take}
use Rattle.kt_baseset.specs.Tables.{row_at}
use Rattle.kt_baseset.proofs.baseset.row_of.Given as goal

abbrev pub invariant-columns : goal.invariant-columns
invariant-columns l = l.row.items ≡ row_at (take l.held-index l.columns) l.i
