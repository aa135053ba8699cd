use Rattle.kt_plain.proofs.TextsFault.{HasEnds}
use Rattle.kt_plain.proofs.faults.fault_of_texts.Given as goal

abbrev pub invariant-loop-i : goal.invariant-loop-i
invariant-loop-i l = HasEnds l.most l.n l.i l.bytes l.last
