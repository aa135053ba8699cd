use Rattle.std.proofs.Common.{refl}
use Rattle.kt_tree.proofs.Callers.{bare_tree, bare_owns}
use Rattle.kt_tree.proofs.tree.Tree.empty_into.Goals as goal

pub returns-clause-tree : goal.returns-clause-tree
returns-clause-tree c = bare_tree (record { root = 0xffff_ffff; count = 0 }) c.give_back.new.pool refl refl

pub returns-clause-bare : goal.returns-clause-bare
returns-clause-bare c = bare_owns (record { root = 0xffff_ffff; count = 0 }) c.give_back.new.pool refl
