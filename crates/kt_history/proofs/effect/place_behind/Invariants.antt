use Rattle.std.proofs.Common.{◌≤◌, ◌-◌, length}
use Rattle.kt_history.specs.Places.{AreBelow}
use Rattle.kt_history.proofs.effect.place_behind.Given as goal

-- the columns before the place are below
abbrev pub invariant-places : goal.invariant-places
invariant-places g l = record { bound : l.at ≤ length l.cells; below : AreBelow l.at l.id l.cells }

abbrev pub decreases-places : goal.decreases-places
decreases-places g l = length l.cells - l.at
