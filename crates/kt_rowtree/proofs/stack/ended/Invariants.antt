use Rattle.std.proofs.Common.{ℕ, ◌-◌, ◌<◌, ◌≤◌, length, true, false}
use Rattle.kt_rowtree.proofs.Counted.{Past}
use Rattle.kt_rowtree.proofs.stack.ended.Given as goal

abbrev pub invariant-loop-low : goal.invariant-loop-low
invariant-loop-low l = record {
  ordered : l.low ≤ l.high;
  bound : l.high ≤ length l.ends;
  below : (k : ℕ) → k < l.low → Past l.ranges l.ends l.key k true;
  above : (k : ℕ) → l.high ≤ k → k < length l.ends → Past l.ranges l.ends l.key k false;
}

abbrev pub decreases-loop-low : goal.decreases-loop-low
decreases-loop-low l = l.high - l.low
