use Rattle.std.proofs.Common.{◌≡◌, take, None}
use Rattle.kt_judge.specs.Tables.{row_after_all}
use Rattle.kt_judge.proofs.versions.last_row.Given as goal

-- the row after the versions so far
abbrev pub invariant-loop-at : goal.invariant-loop-at
invariant-loop-at l = l.row ≡ row_after_all None (take l.at l.list)
