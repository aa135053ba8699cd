use Rattle.std.proofs.Common.{arith, ◌≢◌}
use Rattle.kt_tree.specs.Shapes.{nothing}
use Rattle.kt_tree.proofs.Clearing.{clear_left_there, clear_left_fewer, clear_right_there, clear_right_fewer, clear_key, clear_root, clears}
use Rattle.kt_tree.proofs.change.+give_back.Goals as goal

pub give_back-requires : goal.give_back-requires
give_back-requires t c =
    let h = c.decreases in
    let ne : c.args.root ≢ nothing = omega arith in
    let fewer = clear_left_fewer c.args.pool.now c.args.root c.node_in-node.result c.node_in-node.ensures ne c.requires.0 c.requires.1 in
    (omega (arith, h, fewer), clear_left_there c.args.pool.now c.args.root c.node_in-node.result c.node_in-node.ensures ne c.requires.0 c.requires.1)

pub give_back-requires-2 : goal.give_back-requires-2
give_back-requires-2 t c =
    let h = c.decreases in
    let ne : c.args.root ≢ nothing = omega arith in
    let fewer = clear_right_fewer c.args.pool.now c.args.root c.node_in-node.result c.node_in-node.ensures ne c.give_back.new.pool c.give_back.ensures c.requires.0 c.requires.1 in
    (omega (arith, h, fewer), clear_right_there c.args.pool.now c.args.root c.node_in-node.result c.node_in-node.ensures ne c.give_back.new.pool c.give_back.ensures c.requires.0 c.requires.1)

pub give_back-requires-3 : goal.give_back-requires-3
give_back-requires-3 t c =
    let ne : c.args.root ≢ nothing = omega arith in
    clear_key c.args.pool.now c.args.root c.node_in-node.result c.node_in-node.ensures ne c.give_back.new.pool c.give_back.ensures c.give_back-2.new.pool c.give_back-2.ensures c.requires.0 c.requires.1

pub give_back-requires-4 : goal.give_back-requires-4
give_back-requires-4 t c =
    let ne : c.args.root ≢ nothing = omega arith in
    clear_root c.args.pool.now c.args.root c.node_in-node.result c.node_in-node.ensures ne c.give_back.new.pool c.give_back.ensures c.give_back-2.new.pool c.give_back-2.ensures c.give_back-3.new.self c.give_back-3.ensures c.requires.0 c.requires.1

pub returns : goal.returns
returns t c =
    let ne : c.args.root ≢ nothing = omega arith in
    clears c.args.pool.now c.args.root c.node_in-node.result c.node_in-node.ensures ne c.give_back.new.pool c.give_back.ensures c.give_back-2.new.pool c.give_back-2.ensures c.give_back-3.new.self c.give_back-3.ensures c.give_back-4.new.self c.give_back-4.ensures
