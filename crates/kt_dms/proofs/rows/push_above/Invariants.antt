use Rattle.std.proofs.Common.{◌≡◌, ◌++◌, Some, length}
use Rattle.kt_tree.specs.Trees.{entries}
use Rattle.kt_dms.specs.Walks.{placed_for, later}
use Rattle.kt_dms.proofs.Missed.{under_key}
use Rattle.kt_dms.proofs.rows.push_above.Given as goal

abbrev pub invariant-changes : goal.invariant-changes
invariant-changes l = l.list ++ under_key l.tree l.pool l.ordinal l.key l.after ≡ l.initial.list ++ under_key l.tree l.pool l.ordinal l.key (Some l.above)

abbrev pub decreases-changes : goal.decreases-changes
decreases-changes l = length (later l.after (placed_for l.ordinal (entries l.tree l.pool)))
