use Rattle.std.proofs.Common.{◌≡◌, drop}
use Rattle.std.specs.List.{list_any}
use Rattle.kt_scan.specs.Whole.{has_id}
use Rattle.kt_scan.proofs.asked.has_any.Given as goal

abbrev pub invariant-loop-id : goal.invariant-loop-id
invariant-loop-id l = list_any (has_id l.columns) (drop l.id-index l.ids) ≡ list_any (has_id l.columns) l.ids
