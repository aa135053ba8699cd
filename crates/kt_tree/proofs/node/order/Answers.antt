use Rattle.std.proofs.Common.{◌∙◌, arith}
use Rattle.kt_pool.specs.Contents.{bytes_at}
use Rattle.kt_tree.proofs.Heads.{high_order, low_order}
use Rattle.kt_tree.proofs.node.order.Goals as goal

pub returns-then-node-head : goal.returns-then-node-head
returns-then-node-head c = c.cmp.ensures ∙ high_order c.args.node.now.head c.args.head (bytes_at c.args.pool.now c.args.node.now.key) c.args.key.now c.requires.bytes (λ i. omega (arith, c.type_inv.key i)) c.requires.head c.requires.sought c.if-node-head.true

pub returns-then-node-head-2 : goal.returns-then-node-head-2
returns-then-node-head-2 c = c.cmp-then-node-head-2.ensures ∙ low_order c.args.node.now.head c.args.head (bytes_at c.args.pool.now c.args.node.now.key) c.args.key.now c.requires.bytes (λ i. omega (arith, c.type_inv.key i)) c.requires.head c.requires.sought c.if-node-head.false c.if-node-head-2.true
