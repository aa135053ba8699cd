use Rattle.std.proofs.Common.{◌≡◌, ◌≤◌, ◌<◌, ◌*◌, List, ℕ, length, get_or, take, drop}
use Rattle.kt_front.specs.Spelling.{spelling}
use Rattle.kt_front.specs.Reading.{Spells}
use Rattle.kt_front.specs.Walking.{IsBlock}
use Rattle.kt_front.proofs.starts.Starts.of.Given as goal

abbrev pub invariant-loop : goal.invariant-loop
invariant-loop l = record {
  count : length l.offsets.items ≡ l.counter;
  within : length l.rest ≤ length l.bytes;
  each : (items : List (List ℕ)) → Spells l.bytes l.n items → (q : ℕ) → q < l.counter → get_or l.offsets.items q 0 ≡ length (spelling (take (16 * q) items));
  there : (items : List (List ℕ)) → Spells l.bytes l.n items → 16 * l.counter ≤ length items → IsBlock l.rest (drop (16 * l.counter) items);
}
