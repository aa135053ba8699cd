use Rattle.kt_tree.specs.Shapes.{Shape}
use Rattle.kt_tree.specs.Changes.{Lacks}
use Rattle.kt_tree.specs.Spots.{Leads}
use Rattle.kt_tree.proofs.Shapes.{nodes_at}
use Rattle.kt_tree.proofs.change.spot_of.Given as goal

abbrev pub invariant-down : goal.invariant-down
invariant-down l = record {
  leads : Leads l.pool l.key l.root l.spot.above l.spot.cell l.spot.node l.spot.right;
  lacks : (s : Shape) × Lacks l.pool l.spot.cell l.key s;
}

abbrev pub decreases-down : goal.decreases-down
decreases-down l = nodes_at l.pool l.spot.cell
