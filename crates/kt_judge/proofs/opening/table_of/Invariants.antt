use Rattle.kt_judge.proofs.Opened.{AreDone}
use Rattle.kt_judge.proofs.opening.table_of.Given as goal

-- the writes so far are done
abbrev pub invariant-loop-write : goal.invariant-loop-write
invariant-loop-write l = AreDone l.opening l.write-index l.entries.items
