use Rattle.std.proofs.Common.{◌-◌, ◌<◌, ◌≤◌, ℕ, length}
use Rattle.kt_deltafile.specs.Order.{ordinal_at}
use Rattle.kt_deltafile.proofs.file.first_from.Given as goal

abbrev pub invariant-loop-low : goal.invariant-loop-low
invariant-loop-low l = record {
  order : l.low ≤ l.high;
  within : l.high ≤ length l.records;
  before : (i : ℕ) → i < l.low → ordinal_at l.records i < l.ordinal;
  behind : (i : ℕ) → l.high ≤ i → i < length l.records → l.ordinal ≤ ordinal_at l.records i;
}

abbrev pub decreases-loop-low : goal.decreases-loop-low
decreases-loop-low l = l.high - l.low
