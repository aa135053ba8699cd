use Rattle.kt_tree.specs.Walks.{SeeksOn}
use Rattle.kt_tree.proofs.Shapes.{nodes_at}
use Rattle.kt_tree.proofs.tree.Tree.seek.Given as goal

abbrev pub invariant-loop-cell : goal.invariant-loop-cell
invariant-loop-cell l = SeeksOn l.self l.pool l.cell l.key l.way

abbrev pub decreases-loop-cell : goal.decreases-loop-cell
decreases-loop-cell l = nodes_at l.pool l.cell
