use Rattle.kt_rle.proofs.Decoded.{HoldsRead}
use Rattle.kt_rle.proofs.decoding.read.Given as goal

abbrev pub invariant-runs : goal.invariant-runs
invariant-runs l = HoldsRead l.width l.n l.bytes l.i l.end l.last l.runs.items
