use Rattle.std.proofs.Common.{◌-◌, length}
use Rattle.kt_rle.proofs.Held.{StandFor}
use Rattle.kt_rle.proofs.items.runs_of.Given as goal

abbrev pub invariant-loop-at : goal.invariant-loop-at
invariant-loop-at l = StandFor l.numbers l.at l.runs.items

abbrev pub decreases-loop-at : goal.decreases-loop-at
decreases-loop-at l = length l.numbers - l.at
