use Rattle.std.proofs.Common.{◌≡◌, ◌<◌, ◌≤◌, ℕ, length, get_or}
use Rattle.kt_policy.specs.Steps.{with_more}
use Rattle.kt_policy.proofs.filling.next_row.Given as goal

abbrev pub invariant-loop-b : goal.invariant-loop-b
invariant-loop-b l = record {
  count : length l.next.items ≡ length l.row;
  sums : (k : ℕ) → k < l.b → get_or l.next.items k 0 ≡ with_more l.candidate l.row k;
  rest : (k : ℕ) → l.b ≤ k → get_or l.next.items k 0 ≡ get_or l.row k 0;
}
