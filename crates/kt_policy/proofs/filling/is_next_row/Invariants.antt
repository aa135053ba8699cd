use Rattle.std.proofs.Common.{◌≡◌, ◌<◌, ℕ, length, get_or}
use Rattle.kt_policy.specs.Steps.{with_more}
use Rattle.kt_policy.proofs.filling.is_next_row.Given as goal

abbrev pub invariant-loop-b : goal.invariant-loop-b
invariant-loop-b l = record { count : length l.next ≡ length l.row; sums : (k : ℕ) → k < l.b → get_or l.next k 0 ≡ with_more l.candidate l.row k }
