use Rattle.std.proofs.Common.{length}
use Rattle.kt_memrowset.specs.Stores.{trail_at, Releasing}
use Rattle.kt_memrowset.proofs.chain.release.Given as goal

abbrev pub invariant-loop-cell : goal.invariant-loop-cell
invariant-loop-cell l = Releasing l.initial.pool l.pool (trail_at l.initial.pool (length l.initial.pool.places) l.newest) l.cell

abbrev pub decreases-loop-cell : goal.decreases-loop-cell
decreases-loop-cell l = length (trail_at l.pool (length l.pool.places) l.cell)
