use Rattle.kt_key.proofs.Decoding.{IsSoFar}
use Rattle.kt_key.proofs.read.decode_key.Given as goal

abbrev pub invariant-loop-at : goal.invariant-loop-at
invariant-loop-at l = IsSoFar l.kinds l.bytes l.at l.cells.items l.rest
