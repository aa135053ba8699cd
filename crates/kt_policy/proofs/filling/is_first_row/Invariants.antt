use Rattle.std.proofs.Common.{◌≡◌, ◌<◌, ℕ, get_or}
use Rattle.kt_policy.proofs.filling.is_first_row.Given as goal

abbrev pub invariant-loop-sum : goal.invariant-loop-sum
invariant-loop-sum l = (k : ℕ) → k < l.sum-index → get_or l.row k 0 ≡ 0
