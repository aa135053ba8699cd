use Rattle.std.proofs.Common.{◌≡◌, true, false, sym, ap, ◌∙◌}
use Rattle.std.specs.Ordering.{is_lt}
use Rattle.kt_pool.specs.Contents.{bytes_at}
use Rattle.kt_tree.specs.Entries.{order}
use Rattle.kt_tree.proofs.Spots.{below_is}
use Rattle.kt_tree.proofs.change.step.Goals as goal

pub returns-then-right-clause-right : goal.returns-then-right-clause-right
returns-then-right-clause-right c = c.is_lt-right.ensures ∙ ap is_lt c.order.ensures

pub returns-then-right-clause-below : goal.returns-then-right-clause-below
returns-then-right-clause-below c =
    let n = c.node_in-node.result in
    let side : c.is_lt-right.result ≡ is_lt (order (bytes_at c.args.pool.now n.key) c.args.key.now) = c.is_lt-right.ensures ∙ ap is_lt c.order.ensures in
    sym (below_is c.args.pool.now c.args.key.now c.args.cell n true c.node_in-node.ensures (sym c.if-right.true ∙ side))

pub returns-clause-right : goal.returns-clause-right
returns-clause-right c = c.is_lt-right.ensures ∙ ap is_lt c.order.ensures

pub returns-clause-below : goal.returns-clause-below
returns-clause-below c =
    let n = c.node_in-node.result in
    let side : c.is_lt-right.result ≡ is_lt (order (bytes_at c.args.pool.now n.key) c.args.key.now) = c.is_lt-right.ensures ∙ ap is_lt c.order.ensures in
    sym (below_is c.args.pool.now c.args.key.now c.args.cell n false c.node_in-node.ensures (sym c.if-right.false ∙ side))
