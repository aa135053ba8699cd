use Rattle.std.proofs.Common.{ℕ, ◌+◌, ◌≤◌, length, drop}
use Rattle.kt_script.specs.Places.{IsFault}
use Rattle.kt_script.specs.OutForms.{AreCounts}
use Rattle.kt_script.proofs.out_fronts.counts_front.Given as goal

abbrev pub invariant-loop-most : goal.invariant-loop-most
invariant-loop-most l = record {
  within : l.at ≤ length l.text;
  whole : (n : ℕ) → IsFault (AreCounts (drop l.most-index l.mosts)) (drop l.at l.text) n → IsFault (AreCounts l.mosts) l.text (l.at + n);
}
