use Rattle.std.proofs.Common.{◌≡◌}
use Rattle.kt_tree.specs.InOrder.{IsWalk, to_come}
use Rattle.kt_tree.proofs.Shapes.{nodes_at}
use Rattle.kt_tree.proofs.walk.Walk.descend.Given as goal

abbrev pub invariant-loop-self : goal.invariant-loop-self
invariant-loop-self l = IsWalk l.self l.pool × (to_come l.self l.pool ≡ to_come l.initial.self l.pool)

abbrev pub decreases-loop-self : goal.decreases-loop-self
decreases-loop-self l = nodes_at l.pool l.self.cell
