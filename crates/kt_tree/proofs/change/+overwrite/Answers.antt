use Rattle.std.proofs.Common.{arith, ◌≢◌, sym}
use Rattle.kt_tree.specs.Shapes.{nothing}
use Rattle.kt_tree.proofs.Overwriting.{tree_right_there, tree_left_there, tree_right_fewer, tree_left_fewer, overs_right, overs_left, overs_here}
use Rattle.kt_tree.proofs.change.+overwrite.Goals as goal

pub overwrite-requires : goal.overwrite-requires
overwrite-requires t c =
    let h = c.decreases in
    let ne : c.args.root ≢ nothing = omega arith in
    let fewer = tree_right_fewer c.args.pool.now c.args.root c.args.key.now c.args.value c.node_in-node.result c.node_in-node.ensures ne c.requires.there.0 c.requires.there.1 in
    (omega (arith, h, fewer), (tree_right_there c.args.pool.now c.args.root c.args.key.now c.args.value c.node_in-node.result c.node_in-node.ensures ne c.requires.there.0 c.requires.there.1, c.requires.sought))

pub overwrite-requires-in-Greater : goal.overwrite-requires-in-Greater
overwrite-requires-in-Greater t c =
    let h = c.decreases in
    let ne : c.args.root ≢ nothing = omega arith in
    let fewer = tree_left_fewer c.args.pool.now c.args.root c.args.key.now c.args.value c.node_in-node.result c.node_in-node.ensures ne c.requires.there.0 c.requires.there.1 in
    (omega (arith, h, fewer), (tree_left_there c.args.pool.now c.args.root c.args.key.now c.args.value c.node_in-node.result c.node_in-node.ensures ne c.requires.there.0 c.requires.there.1, c.requires.sought))

pub returns-in-Less : goal.returns-in-Less
returns-in-Less t c =
    let ne : c.args.root ≢ nothing = omega arith in
    overs_right c.args.pool.now c.args.root c.args.key.now c.args.value c.node_in-node.result c.node_in-node.ensures ne c.overwrite.new.pool c.overwrite.result (sym c.in-Less.ensures) c.overwrite.ensures

pub returns-in-Greater : goal.returns-in-Greater
returns-in-Greater t c =
    let ne : c.args.root ≢ nothing = omega arith in
    overs_left c.args.pool.now c.args.root c.args.key.now c.args.value c.node_in-node.result c.node_in-node.ensures ne c.overwrite-in-Greater.new.pool c.overwrite-in-Greater.result (sym c.in-Greater.ensures) c.overwrite-in-Greater.ensures

pub returns-in-Equal : goal.returns-in-Equal
returns-in-Equal t c =
    let ne : c.args.root ≢ nothing = omega arith in
    overs_here c.args.pool.now c.args.root c.args.key.now c.args.value c.node_in-node.result c.node_in-node.ensures ne c.write.new.pool (sym c.in-Equal.ensures) c.write.ensures.node c.write.ensures.others
