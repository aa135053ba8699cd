use Rattle.std.proofs.Common.{◌≡◌, ◌++◌, take}
use Rattle.kt_script.proofs.draft.append.Given as goal

-- the operations before here are added
abbrev pub invariant-ops : goal.invariant-ops
invariant-ops l = l.ops ≡ l.initial.ops ++ take l.at l.more
