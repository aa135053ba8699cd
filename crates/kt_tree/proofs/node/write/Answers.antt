use Rattle.kt_tree.proofs.Places.{node_over, node_others}
use Rattle.kt_tree.proofs.node.write.Goals as goal

pub returns-clause-node : goal.returns-clause-node
returns-clause-node c = node_over c.args.pool.now c.set.new.self c.args.cell c.args.node c.spelled.result c.set.ensures c.requires.long c.spelled.ensures.bytes c.requires.inside c.spelled.ensures.reads

pub returns-clause-others : goal.returns-clause-others
returns-clause-others c = node_others c.args.pool.now c.set.new.self c.args.cell c.args.node c.spelled.result c.set.ensures c.requires.long c.spelled.ensures.bytes
