use Rattle.std.proofs.Common.{◌-◌, ◌<◌, ◌≤◌, ℕ, [], length, get_or}
use Rattle.kt_lookup.specs.Index.{IsBelow}
use Rattle.kt_baseset.specs.Tables.{keys_of}
use Rattle.kt_baseset.proofs.baseset.first_above.Given as goal

abbrev pub invariant-halves : goal.invariant-halves
invariant-halves l =
    record {
      order : l.low ≤ l.high;
      within : l.high ≤ length l.keys.cells;
      before : (i : ℕ) → i < l.low → ¬ IsBelow l.key (get_or (keys_of l.keys.cells) i []);
      above : (i : ℕ) → l.high ≤ i → i < length l.keys.cells → IsBelow l.key (get_or (keys_of l.keys.cells) i []);
    }

abbrev pub decreases-halves : goal.decreases-halves
decreases-halves l = l.high - l.low
