use Rattle.std.proofs.Common.{◌≡◌, length}
use Rattle.kt_history.specs.Stores.{after_steps}
use Rattle.kt_tree.specs.Trees.{entries}
use Rattle.kt_dms.specs.Walks.{placed_for, later, steps_at_places}
use Rattle.kt_dms.proofs.rows.row_at.Given as goal

abbrev pub invariant-changes : goal.invariant-changes
invariant-changes l = after_steps l.t (steps_at_places l.pool (later l.after (placed_for l.ordinal (entries l.tree l.pool)))) l.row ≡ after_steps l.t (steps_at_places l.pool (placed_for l.ordinal (entries l.tree l.pool))) l.fn.base

abbrev pub decreases-changes : goal.decreases-changes
decreases-changes l = length (later l.after (placed_for l.ordinal (entries l.tree l.pool)))
