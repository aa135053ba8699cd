use Rattle.std.proofs.Common.{◌≡◌, ◌<◌, ◌*◌, ℕ, [], length, get_or}
use Rattle.kt_lookup.proofs.indexes.index_of.Given as goal

abbrev pub invariant-loop-j : goal.invariant-loop-j
invariant-loop-j l = record {
  len : length l.index ≡ l.j;
  each : (k : ℕ) → k < l.j → get_or l.index k [] ≡ get_or l.keys (16 * k) [];
}
