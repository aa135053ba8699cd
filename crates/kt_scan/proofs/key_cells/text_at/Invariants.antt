use Rattle.std.proofs.Common.{length}
use Rattle.kt_scan.proofs.KeyTexts.{IsSplit}
use Rattle.kt_scan.proofs.key_cells.text_at.Given as goal

abbrev pub invariant-loop-zero : goal.invariant-loop-zero
invariant-loop-zero l = IsSplit l.bytes l.text l.rest

abbrev pub decreases-loop-zero : goal.decreases-loop-zero
decreases-loop-zero l = length l.rest
