use Rattle.std.proofs.Common.{length}
use Rattle.kt_pool.proofs.Writing.{HasWritten}
use Rattle.kt_pool.proofs.cells.write.Given as goal

abbrev pub invariant-loop-skip : goal.invariant-loop-skip
invariant-loop-skip l = HasWritten l.initial.cells l.cells l.first l.at l.bytes l.rest l.cell l.skip

abbrev pub decreases-loop-skip : goal.decreases-loop-skip
decreases-loop-skip l = length l.rest
