use Rattle.std.proofs.Common.{ℕ, ◌+◌, ◌-◌, ◌≤◌, length, drop}
use Rattle.kt_script.specs.Places.{IsFault}
use Rattle.kt_script.specs.OutForms.{AreOutcomes}
use Rattle.kt_script.proofs.out_fronts.outcomes_front.Given as goal

abbrev pub invariant-outcomes : goal.invariant-outcomes
invariant-outcomes l = record {
  within : l.at ≤ length l.text;
  whole : (n : ℕ) → IsFault AreOutcomes (drop l.at l.text) n → IsFault AreOutcomes l.text (l.at + n);
}

abbrev pub decreases-outcomes : goal.decreases-outcomes
decreases-outcomes l = length l.text - l.at
