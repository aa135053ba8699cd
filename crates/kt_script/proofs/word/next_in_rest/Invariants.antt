use Rattle.std.proofs.Common.{◌≡◌, ℕ, ◌<◌, ◌≤◌, ◌-◌, length, get_or, false}
use Rattle.memchr.specs.Find.{is_byte2}
use Rattle.kt_script.proofs.word.next_in_rest.Given as goal

-- neither byte stands before the place
abbrev pub invariant-bytes : goal.invariant-bytes
invariant-bytes l = record {
  behind : l.from ≤ l.at;
  within : l.at ≤ length l.text;
  none : (k : ℕ) → l.from ≤ k → k < l.at → is_byte2 l.first l.second (get_or l.text k 0) ≡ false;
}

abbrev pub decreases-bytes : goal.decreases-bytes
decreases-bytes l = length l.text - l.at
