use Rattle.std.proofs.Common.{◌≤◌, ◌-◌, length}
use Rattle.kt_script.proofs.Runs.{Begins}
use Rattle.kt_script.proofs.word.cut_word.Given as goal

-- the bytes so far begin the first word
abbrev pub invariant-bytes : goal.invariant-bytes
invariant-bytes l = record {
  within : l.from ≤ length l.text;
  begins : Begins l.text l.side l.from;
}

abbrev pub decreases-bytes : goal.decreases-bytes
decreases-bytes l = length l.text - l.from
