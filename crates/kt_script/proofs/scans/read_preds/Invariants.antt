use Rattle.std.proofs.Common.{length}
use Rattle.kt_script.specs.Pieces.{words_in}
use Rattle.kt_script.proofs.Preds.{Read}
use Rattle.kt_script.proofs.scans.read_preds.Given as goal

abbrev pub invariant-tests : goal.invariant-tests
invariant-tests l = Read l.columns (words_in l.line) (words_in l.rest) l.initial.no l.no l.preds.items

abbrev pub decreases-tests : goal.decreases-tests
decreases-tests l = length (words_in l.rest)
