use Rattle.std.specs.Option.{option_copied}
use Rattle.kt_tree.specs.Walks.{SeeksAfter}
use Rattle.kt_tree.proofs.Shapes.{nodes_at}
use Rattle.kt_tree.proofs.tree.Tree.after.Given as goal

abbrev pub invariant-loop-cell : goal.invariant-loop-cell
invariant-loop-cell l = SeeksAfter l.self l.pool l.cell (option_copied l.key) l.best

abbrev pub decreases-loop-cell : goal.decreases-loop-cell
decreases-loop-cell l = nodes_at l.pool l.cell
