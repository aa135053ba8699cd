use Rattle.std.specs.Prelude.{◌≤◌}
use Rattle.kt_tree.proofs.change.spot_on.Given as goal

abbrev pub invariant-up : goal.invariant-up
invariant-up l = l.steps ≤ l.seat.way.steps

abbrev pub decreases-up : goal.decreases-up
decreases-up l = l.steps
