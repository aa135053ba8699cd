use Rattle.std.proofs.Common.{◌-◌, ◌≤◌, length}
use Rattle.kt_base.specs.Literals.{PlainBetween}
use Rattle.kt_base.proofs.plain.plain_front.Given as goal

abbrev pub invariant-lanes : goal.invariant-lanes
invariant-lanes l = (l.at ≤ length l.bytes) × PlainBetween l.bytes 0 l.at

abbrev pub decreases-lanes : goal.decreases-lanes
decreases-lanes l = length l.bytes - l.at
