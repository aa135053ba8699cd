use Rattle.std.proofs.Common.{◌≡◌, length}
use Rattle.kt_script.specs.Pieces.{words_in}
use Rattle.kt_script.specs.Writes.{later_in}
use Rattle.kt_script.proofs.operations.behind_op.Given as goal

-- no word so far ends the operation
abbrev pub invariant-words : goal.invariant-words
invariant-words l = later_in l.left ≡ later_in l.rest

abbrev pub decreases-words : goal.decreases-words
decreases-words l = length (words_in l.left)
