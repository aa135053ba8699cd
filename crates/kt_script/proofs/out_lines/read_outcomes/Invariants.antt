use Rattle.std.proofs.Common.{◌≡◌, length}
use Rattle.kt_script.specs.Outputs.{pieces_in, outcomes_in}
use Rattle.kt_script.proofs.EachWord.{pushed}
use Rattle.kt_script.proofs.out_lines.read_outcomes.Given as goal

abbrev pub invariant-words : goal.invariant-words
invariant-words l = outcomes_in (pieces_in l.rest) ≡ pushed l.outcomes.items (outcomes_in (pieces_in l.left))

abbrev pub decreases-words : goal.decreases-words
decreases-words l = length (pieces_in l.left)
