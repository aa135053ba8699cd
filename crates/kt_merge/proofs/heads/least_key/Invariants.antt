use Rattle.std.proofs.Common.{◌≡◌, ◌≤◌, drop, length}
use Rattle.std.specs.Option.{option_copied}
use Rattle.kt_merge.specs.Heads.{least_in, keys_next}
use Rattle.kt_merge.proofs.heads.least_key.Given as goal

abbrev pub invariant-heads : goal.invariant-heads
invariant-heads l = record { within : l.at ≤ length l.heads; least : option_copied l.least ≡ least_in (keys_next (drop l.at l.heads)) }

abbrev pub decreases-heads : goal.decreases-heads
decreases-heads l = l.at
