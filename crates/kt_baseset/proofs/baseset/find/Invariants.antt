use Rattle.std.proofs.Common.{◌≢◌, ◌<◌, ◌≤◌, ℕ, [], get_or}
use Rattle.kt_baseset.specs.Tables.{keys_of}
use Rattle.kt_baseset.proofs.baseset.find.Given as goal

abbrev pub invariant-keys : goal.invariant-keys
invariant-keys l = (k : ℕ) → l.start ≤ k → k < l.i → get_or (keys_of l.keys.cells) k [] ≢ l.key
