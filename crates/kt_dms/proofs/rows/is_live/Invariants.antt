use Rattle.std.proofs.Common.{◌≡◌, Option, length}
use Rattle.std.specs.Prelude.{is_some}
use Rattle.kt_history.specs.Rows.{Row}
use Rattle.kt_history.specs.Stores.{apply_all}
use Rattle.kt_tree.specs.Trees.{entries}
use Rattle.kt_dms.specs.Walks.{placed_for, later, steps_at_places}
use Rattle.kt_dms.proofs.rows.is_live.Given as goal

abbrev pub invariant-changes : goal.invariant-changes
invariant-changes l =
    (row : Option Row) → is_some row ≡ l.before
    → (now : Option Row) × (is_some now ≡ l.live) × (apply_all (steps_at_places l.pool (later l.after (placed_for l.ordinal (entries l.tree l.pool)))) now ≡ apply_all (steps_at_places l.pool (placed_for l.ordinal (entries l.tree l.pool))) row)

abbrev pub decreases-changes : goal.decreases-changes
decreases-changes l = length (later l.after (placed_for l.ordinal (entries l.tree l.pool)))
