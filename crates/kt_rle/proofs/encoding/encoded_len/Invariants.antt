use Rattle.std.proofs.Common.{◌≡◌, ◌-◌, List, length}
use Rattle.kt_rle.specs.declared.runs.Held.{Held}
use Rattle.kt_rle.proofs.Held.{StandFor}
use Rattle.kt_rle.proofs.encoding.encoded_len.Given as goal

abbrev pub invariant-loop-at : goal.invariant-loop-at
invariant-loop-at l = (hs : List Held) × StandFor l.numbers l.at hs × (length hs ≡ l.runs)

abbrev pub decreases-loop-at : goal.decreases-loop-at
decreases-loop-at l = length l.numbers - l.at
