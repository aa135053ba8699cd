use Rattle.kt_tree.specs.Trees.{IsTree}
use Rattle.kt_cases.proofs.tree.put_all.Given as goal

abbrev pub invariant-loop-key : goal.invariant-loop-key
invariant-loop-key g l = IsTree l.tree l.pool
