use Rattle.std.proofs.Common.{◌≡◌, take, cond, Some, None}
use Rattle.kt_judge.specs.Tables.{row_after_all}
use Rattle.kt_judge.proofs.versions.last_row_in.Given as goal

-- the row after the versions so far
abbrev pub invariant-loop-at : goal.invariant-loop-at
invariant-loop-at l = cond l.there (Some l.row) None ≡ row_after_all None (take l.at l.list)
