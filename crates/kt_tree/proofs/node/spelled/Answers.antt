use Rattle.std.proofs.Common.{arith, ap, ◌∙◌}
use Rattle.kt_tree.specs.Shapes.{node_of}
use Rattle.kt_tree.proofs.Places.{node_of-spelling}
use Rattle.kt_tree.proofs.node.spelled.Goals as goal

pub returns-clause-reads : goal.returns-clause-reads
returns-clause-reads c = ap node_of c.write_u32_into.ensures ∙ node_of-spelling (record { left = c.args.left; right = c.args.right; key = c.args.key; value = c.args.value; head = record { high = c.args.high; low = c.args.low } }) (omega arith) (omega arith) (omega arith) (omega arith) (omega arith) (omega arith)
