use Rattle.kt_tree.proofs.Shapes.{nodes_at}
use Rattle.kt_tree.proofs.change.+split.Given as goal

abbrev pub decreases-split : goal.decreases-split
decreases-split l = nodes_at l.pool.now l.root
