use Rattle.std.proofs.Common.{◌≡◌, drop, map}
use Rattle.kt_history.specs.declared.operation.RowOp.{RowOp}
use Rattle.kt_script.specs.Writes.{twice}
use Rattle.kt_script.proofs.writes.is_twice_among.Given as goal

-- the operations so far have keys that no later one has
abbrev pub invariant-ops : goal.invariant-ops
invariant-ops l = twice (map (λ (o : RowOp). o.key) (drop l.at l.ops)) ≡ twice (map (λ (o : RowOp). o.key) l.ops)
