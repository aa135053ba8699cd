use Rattle.kt_tree.proofs.Shapes.{nodes_at}
use Rattle.kt_tree.proofs.change.+overwrite.Given as goal

abbrev pub decreases-overwrite : goal.decreases-overwrite
decreases-overwrite l = nodes_at l.pool.now l.root
