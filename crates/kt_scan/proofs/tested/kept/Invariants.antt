use Rattle.std.proofs.Common.{◌≡◌, drop}
use Rattle.kt_history.specs.Replies.{kept}
use Rattle.kt_scan.specs.Whole.{whole_in}
use Rattle.kt_scan.proofs.tested.kept.Given as goal

abbrev pub invariant-loop-pred : goal.invariant-loop-pred
invariant-loop-pred l = kept (drop l.pred-index l.preds) (whole_in l.columns l.row) ≡ kept l.preds (whole_in l.columns l.row)
