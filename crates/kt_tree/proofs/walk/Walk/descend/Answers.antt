use Rattle.std.proofs.Common.{◌≢◌, ◌∙◌, [], arith, refl}
use Rattle.kt_tree.specs.Shapes.{nothing}
use Rattle.kt_tree.specs.InOrder.{form_at}
use Rattle.kt_tree.proofs.InOrder.{walk_long, walk_down, down_to_come}
use Rattle.kt_tree.proofs.Overwriting.{tree_left_fewer}
use Rattle.kt_tree.proofs.walk.Walk.descend.Goals as goal

pub node_in-requires : goal.node_in-requires
node_in-requires c =
    let ne : c.loop-self.self.cell ≢ nothing = omega arith in
    walk_long c.args.pool.now c.loop-self.self c.loop-self.invariant.0 ne

pub loop-self-smaller : goal.loop-self-smaller
loop-self-smaller c =
    let ne : c.loop-self.self.cell ≢ nothing = omega arith in
    tree_left_fewer c.args.pool.now c.loop-self.self.cell [] 0 c.node_in.result c.node_in.ensures ne (form_at c.args.pool.now c.loop-self.self.cell) c.loop-self.invariant.0.tree

pub loop-self-preserved : goal.loop-self-preserved
loop-self-preserved c =
    let ne : c.loop-self.self.cell ≢ nothing = omega arith in (
      walk_down c.args.pool.now c.loop-self.self c.loop-self.invariant.0 ne c.node_in.result c.node_in.ensures (record { cell = c.node_in.result.left; above = c.push.new.self }) refl c.in_ok-push.ensures.items,
      down_to_come c.args.pool.now c.loop-self.self c.loop-self.invariant.0 ne c.node_in.result c.node_in.ensures (record { cell = c.node_in.result.left; above = c.push.new.self }) refl c.in_ok-push.ensures.items ∙ c.loop-self.invariant.1,
    )
