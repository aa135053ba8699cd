use Rattle.std.proofs.Common.{◌≡◌, drop}
use Rattle.std.specs.List.{list_any}
use Rattle.kt_scan.specs.Whole.{has_id}
use Rattle.kt_scan.proofs.asked.tests_key.Given as goal

abbrev pub invariant-loop-pred : goal.invariant-loop-pred
invariant-loop-pred l = list_any (λ p. has_id l.columns p.column) (drop l.pred-index l.preds) ≡ list_any (λ p. has_id l.columns p.column) l.preds
