use Rattle.std.proofs.Common.{◌-◌, ◌<◌, ◌≤◌, ℕ, [], length, get_or}
use Rattle.kt_lookup.specs.Index.{IsBelow}
use Rattle.kt_lookup.proofs.Halves.{Halved}
use Rattle.kt_lookup.proofs.indexes.search.Given as goal

abbrev pub invariant-loop-low : goal.invariant-loop-low
invariant-loop-low g l = record {
  order : l.low ≤ l.high;
  within : l.high ≤ length l.index;
  before : (j : ℕ) → j < l.low → IsBelow (get_or l.index j []) l.key;
  at : l.high < length l.index → IsBelow (get_or l.index l.high []) l.key → ⊥;
  grew : l.fn.steps ≤ l.steps;
  halved : Halved (length l.index) (l.steps - l.fn.steps) (l.high - l.low);
}

abbrev pub decreases-loop-low : goal.decreases-loop-low
decreases-loop-low g l = l.high - l.low
