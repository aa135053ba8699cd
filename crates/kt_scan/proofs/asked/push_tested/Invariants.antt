use Rattle.std.proofs.Common.{◌≡◌, ◌++◌, drop, map}
use Rattle.kt_scan.specs.Asking.{others_in}
use Rattle.kt_scan.proofs.asked.push_tested.Given as goal

-- what was added, and what is left, are the columns
abbrev pub invariant-loop-pred : goal.invariant-loop-pred
invariant-loop-pred l = l.ids.items ++ others_in l.keys (map (λ p. p.column) (drop l.pred-index l.preds)) ≡ l.initial.ids.items ++ others_in l.keys (map (λ p. p.column) l.preds)
