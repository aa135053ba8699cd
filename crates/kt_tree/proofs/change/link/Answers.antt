use Rattle.kt_tree.proofs.change.link.Goals as goal

pub returns-then-right-clause-node : goal.returns-then-right-clause-node
returns-then-right-clause-node c = rw c.if-right.true c.set_right.ensures.node

pub returns-clause-node : goal.returns-clause-node
returns-clause-node c = rw c.if-right.false c.set_left.ensures.node
