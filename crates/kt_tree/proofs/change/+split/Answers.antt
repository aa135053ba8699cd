use Rattle.std.proofs.Common.{arith, ◌≢◌, sym, ◌∙◌, ap}
use Rattle.kt_tree.specs.Shapes.{nothing}
use Rattle.kt_tree.proofs.Splitting.{right_there, left_there, fewer_right, fewer_left, long_right, long_left, splits_right, splits_left, less_is}
use Rattle.std.specs.Ordering.{is_lt}
use Rattle.kt_tree.proofs.change.+split.Goals as goal

pub split-halves-requires : goal.split-halves-requires
split-halves-requires t c =
    let h = c.decreases in
    let ne : c.args.root ≢ nothing = omega arith in
    let fewer = fewer_right c.args.pool.now c.args.root c.args.key.now c.node_in-node.result c.node_in-node.ensures ne c.requires.lacks.0 c.requires.lacks.1 in
    (omega (arith, h, fewer), (right_there c.args.pool.now c.args.root c.args.key.now c.node_in-node.result c.node_in-node.ensures ne c.requires.lacks.0 c.requires.lacks.1, c.requires.sought))

pub write-requires-clause-long : goal.write-requires-clause-long
write-requires-clause-long t c =
    let ne : c.args.root ≢ nothing = omega arith in
    long_right c.args.pool.now c.args.root c.args.key.now c.node_in-node.result c.node_in-node.ensures ne c.split-halves.new.pool c.split-halves.result.low c.split-halves.result.high c.requires.lacks.0 c.requires.lacks.1 c.split-halves.ensures

pub split-halves-requires-else-is_lt : goal.split-halves-requires-else-is_lt
split-halves-requires-else-is_lt t c =
    let h = c.decreases in
    let ne : c.args.root ≢ nothing = omega arith in
    let fewer = fewer_left c.args.pool.now c.args.root c.args.key.now c.node_in-node.result c.node_in-node.ensures ne c.requires.lacks.0 c.requires.lacks.1 in
    (omega (arith, h, fewer), (left_there c.args.pool.now c.args.root c.args.key.now c.node_in-node.result c.node_in-node.ensures ne c.requires.lacks.0 c.requires.lacks.1, c.requires.sought))

pub write-requires-else-is_lt-clause-long : goal.write-requires-else-is_lt-clause-long
write-requires-else-is_lt-clause-long t c =
    let ne : c.args.root ≢ nothing = omega arith in
    long_left c.args.pool.now c.args.root c.args.key.now c.node_in-node.result c.node_in-node.ensures ne c.split-halves-else-is_lt.new.pool c.split-halves-else-is_lt.result.low c.split-halves-else-is_lt.result.high c.requires.lacks.0 c.requires.lacks.1 c.split-halves-else-is_lt.ensures

pub returns-then-is_lt : goal.returns-then-is_lt
returns-then-is_lt t c =
    let ne : c.args.root ≢ nothing = omega arith in
    let less = sym c.order.ensures ∙ less_is c.order.result (sym c.is_lt.ensures ∙ c.if-is_lt.true) in
    splits_right c.args.pool.now c.args.root c.args.key.now c.node_in-node.result c.node_in-node.ensures ne c.split-halves.new.pool c.split-halves.result.low c.split-halves.result.high c.write.new.pool c.write.ensures.others less c.write.ensures.node c.split-halves.ensures

pub returns-else-is_lt : goal.returns-else-is_lt
returns-else-is_lt t c =
    let ne : c.args.root ≢ nothing = omega arith in
    let more = sym (ap is_lt c.order.ensures) ∙ sym c.is_lt.ensures ∙ c.if-is_lt.false in
    splits_left c.args.pool.now c.args.root c.args.key.now c.node_in-node.result c.node_in-node.ensures ne c.split-halves-else-is_lt.new.pool c.split-halves-else-is_lt.result.low c.split-halves-else-is_lt.result.high c.write-else-is_lt.new.pool c.write-else-is_lt.ensures.others more c.write-else-is_lt.ensures.node c.split-halves-else-is_lt.ensures
