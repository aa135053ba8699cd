use Rattle.std.proofs.Common.{◌≡◌, ◌++◌, drop}
use Rattle.kt_scan.specs.Asking.{others_in}
use Rattle.kt_scan.proofs.asked.push_selected.Given as goal

-- what was added, and what is left, are the columns
abbrev pub invariant-loop-id : goal.invariant-loop-id
invariant-loop-id l = l.ids.items ++ others_in l.keys (drop l.id-index l.columns) ≡ l.initial.ids.items ++ others_in l.keys (l.columns)
