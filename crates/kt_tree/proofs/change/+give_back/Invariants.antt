use Rattle.kt_tree.proofs.Shapes.{nodes_at}
use Rattle.kt_tree.proofs.change.+give_back.Given as goal

abbrev pub decreases-give_back : goal.decreases-give_back
decreases-give_back l = nodes_at l.pool.now l.root
