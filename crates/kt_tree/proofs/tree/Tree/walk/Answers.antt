use Rattle.std.proofs.Common.{refl}
use Rattle.kt_tree.proofs.InOrder.{walk_starts, all_to_come}
use Rattle.kt_tree.proofs.tree.Tree.walk.Goals as goal

pub returns-clause-walk : goal.returns-clause-walk
returns-clause-walk c = λ pool t. walk_starts c.args.self.now pool (record { cell = c.args.self.now.root; above = c.new.result }) refl c.new.ensures.items t

pub returns-clause-all : goal.returns-clause-all
returns-clause-all c = λ pool t. all_to_come c.args.self.now pool (record { cell = c.args.self.now.root; above = c.new.result }) refl c.new.ensures.items t
