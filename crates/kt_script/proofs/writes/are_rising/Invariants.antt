use Rattle.std.proofs.Common.{◌∷◌, drop, map}
use Rattle.kt_history.specs.declared.operation.RowOp.{RowOp}
use Rattle.kt_script.proofs.RisingKeys.{Rise, IsBelow}
use Rattle.kt_script.proofs.writes.are_rising.Given as goal

-- the keys rise if those from the last one on do
abbrev pub invariant-ops : goal.invariant-ops
invariant-ops l = Rise IsBelow (l.last ∷ map (λ (o : RowOp). o.key) (drop l.at l.ops)) → Rise IsBelow (map (λ (o : RowOp). o.key) l.ops)
