use Rattle.std.proofs.Common.{◌≡◌, ◌++◌, length, take}
use Rattle.kt_base.specs.Keys.{escaped}
use Rattle.kt_key.proofs.spell.push_escaped.Given as goal

abbrev pub invariant-loop-zero : goal.invariant-loop-zero
invariant-loop-zero l = (l.out ++ escaped l.rest ≡ l.initial.out ++ escaped l.text) × (take (length l.initial.out) l.out ≡ l.initial.out)

abbrev pub decreases-loop-zero : goal.decreases-loop-zero
decreases-loop-zero l = length l.rest
