use Rattle.std.proofs.Common.{◌≡◌, length}
use Rattle.kt_base.specs.Literals.{pairs}
use Rattle.kt_base.proofs.Unquoting.{after_bytes}
use Rattle.kt_base.proofs.literal.unpair.Given as goal

-- what is read so far, and the rest read, are the whole
abbrev pub invariant-pairs : goal.invariant-pairs
invariant-pairs l = pairs l.inside ≡ after_bytes l.bytes (pairs l.rest)

abbrev pub decreases-pairs : goal.decreases-pairs
decreases-pairs l = length l.rest
