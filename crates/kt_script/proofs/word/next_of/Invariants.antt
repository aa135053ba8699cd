use Rattle.std.proofs.Common.{◌≡◌, ℕ, ◌<◌, ◌≤◌, ◌-◌, length, get_or, false}
use Rattle.memchr.specs.Find.{is_byte2}
use Rattle.kt_script.proofs.word.next_of.Given as goal

-- neither byte stands before the place
abbrev pub invariant-lanes : goal.invariant-lanes
invariant-lanes l = record {
  behind : l.from ≤ l.at;
  within : l.at ≤ length l.text;
  none : (k : ℕ) → l.from ≤ k → k < l.at → is_byte2 l.first l.second (get_or l.text k 0) ≡ false;
}

abbrev pub decreases-lanes : goal.decreases-lanes
decreases-lanes l = length l.text - l.at
