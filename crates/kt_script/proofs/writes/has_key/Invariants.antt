use Rattle.std.proofs.Common.{◌≡◌, drop}
use Rattle.std.specs.List.{list_any}
use Rattle.kt_base.specs.Literals.{same}
use Rattle.kt_history.specs.declared.operation.RowOp.{RowOp}
use Rattle.kt_script.proofs.writes.has_key.Given as goal

-- the operations so far have other keys
abbrev pub invariant-ops : goal.invariant-ops
invariant-ops l = list_any (λ (o : RowOp). same l.key o.key) (drop l.at l.ops) ≡ list_any (λ (o : RowOp). same l.key o.key) (drop l.from l.ops)
