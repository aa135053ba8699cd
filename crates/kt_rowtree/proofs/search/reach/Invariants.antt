use Rattle.std.proofs.Common.{◌≡◌, ℕ, ◌-◌, ◌<◌, ◌≤◌, length, get_or, true, false}
use Rattle.kt_rowtree.specs.Ranges.{is_upto}
use Rattle.kt_rowtree.specs.declared.lists.Range.{Range}
use Rattle.kt_rowtree.proofs.search.reach.Given as goal

abbrev pub invariant-loop-low : goal.invariant-loop-low
invariant-loop-low l = record {
  ordered : l.low ≤ l.high;
  bound : l.high ≤ length l.ranges;
  below : (k : ℕ) (d : Range) → k < l.low → is_upto (get_or l.ranges k d).least l.key ≡ true;
  above : (k : ℕ) (d : Range) → l.high ≤ k → k < length l.ranges → is_upto (get_or l.ranges k d).least l.key ≡ false;
}

abbrev pub decreases-loop-low : goal.decreases-loop-low
decreases-loop-low l = l.high - l.low
