use Rattle.std.proofs.Common.{◌≡◌, ◌^◌, take, min}
use Rattle.kt_history.specs.Operations.{need}
use Rattle.kt_history.proofs.need.cells_needed.Given as goal

abbrev pub invariant-ops : goal.invariant-ops
invariant-ops l = l.cells ≡ min (need (take l.at l.ops)) (2 ^ 32)
