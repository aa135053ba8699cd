use Rattle.std.proofs.Common.{length}
use Rattle.kt_key.proofs.Texts.{IsSplit}
use Rattle.kt_key.proofs.read.text_at.Given as goal

abbrev pub invariant-loop-zero : goal.invariant-loop-zero
invariant-loop-zero l = IsSplit l.bytes l.text l.rest

abbrev pub decreases-loop-zero : goal.decreases-loop-zero
decreases-loop-zero l = length l.rest
