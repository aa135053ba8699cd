use Rattle.kt_pool.specs.Contents.{used}
use Rattle.kt_dms.specs.Walks.{Releasing}
use Rattle.kt_dms.proofs.rows.release.Given as goal

abbrev pub invariant-changes : goal.invariant-changes
invariant-changes l = Releasing l.tree l.initial.pool l.pool l.next

abbrev pub decreases-changes : goal.decreases-changes
decreases-changes l = used l.pool
