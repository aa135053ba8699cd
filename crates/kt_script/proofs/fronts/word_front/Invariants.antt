use Rattle.std.proofs.Common.{◌≡◌, ◌+◌, ◌-◌, length, drop}
use Rattle.kt_script.proofs.WordBytes.{common}
use Rattle.kt_script.proofs.fronts.word_front.Given as goal

abbrev pub invariant-loop-at : goal.invariant-loop-at
invariant-loop-at l = common l.text l.word ≡ l.at + common (drop l.at l.text) (drop l.at l.word)

abbrev pub decreases-loop-at : goal.decreases-loop-at
decreases-loop-at l = length l.text - l.at
