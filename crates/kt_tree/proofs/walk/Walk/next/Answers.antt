use Rattle.std.proofs.Common.{◌∙◌, refl, sym}
use Rattle.kt_tree.proofs.InOrder.{open_long, walk_on, first_to_come, first_stands}
use Rattle.kt_tree.proofs.walk.Walk.next.Goals as goal

pub node_in-node-requires : goal.node_in-node-requires
node_in-node-requires c = open_long c.args.pool.now c.descend.new.self c.in_ok-descend.ensures.walk c.in_ok-descend.ensures.down c.pop.new.self.items c.in-Some.cell c.in-Some.ensures.items

pub returns-clause-walk : goal.returns-clause-walk
returns-clause-walk c = walk_on c.args.pool.now c.descend.new.self c.in_ok-descend.ensures.walk c.in_ok-descend.ensures.down c.pop.new.self.items c.in-Some.cell c.in-Some.ensures.items c.node_in-node.result c.node_in-node.ensures (record { cell = c.node_in-node.result.right; above = c.pop.new.self }) refl refl

pub returns-clause-first : goal.returns-clause-first
returns-clause-first c =
    let first = first_to_come c.args.pool.now c.descend.new.self c.in_ok-descend.ensures.walk c.in_ok-descend.ensures.down c.pop.new.self.items c.in-Some.cell c.in-Some.ensures.items c.node_in-node.result c.node_in-node.ensures (record { cell = c.node_in-node.result.right; above = c.pop.new.self }) refl refl in
    (first.0, sym c.in_ok-descend.ensures.same ∙ first.1, first.2)

pub returns-clause-stands : goal.returns-clause-stands
returns-clause-stands c = first_stands c.args.pool.now c.descend.new.self c.in_ok-descend.ensures.walk c.in_ok-descend.ensures.down c.pop.new.self.items c.in-Some.cell c.in-Some.ensures.items c.node_in-node.result c.node_in-node.ensures (record { cell = c.node_in-node.result.right; above = c.pop.new.self }) refl refl
