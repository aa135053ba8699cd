use Rattle.std.proofs.Common.{◌≡◌, take}
use Rattle.kt_judge.specs.Replied.{outcomes_told}
use Rattle.kt_judge.proofs.replies.outcomes_stand.Given as goal

-- the outcomes so far are those of the operations so far
abbrev pub invariant-ops : goal.invariant-ops
invariant-ops l = take l.at l.printed ≡ outcomes_told l.table.entries.items l.t (take l.at l.ops)
