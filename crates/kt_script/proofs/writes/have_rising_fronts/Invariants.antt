use Rattle.std.proofs.Common.{◌≡◌, ℕ, List, ◌∷◌, drop, map}
use Rattle.kt_history.specs.declared.operation.RowOp.{RowOp}
use Rattle.kt_script.specs.Writes.{front}
use Rattle.kt_script.proofs.RisingKeys.{Rise, IsFrontBelow}
use Rattle.kt_script.proofs.writes.have_rising_fronts.Given as goal

-- the fronts rise if those from the last one on do
abbrev pub invariant-ops : goal.invariant-ops
invariant-ops l = (key : List ℕ) × (l.last ≡ front key) × (Rise IsFrontBelow (key ∷ map (λ (o : RowOp). o.key) (drop l.at l.ops)) → Rise IsFrontBelow (map (λ (o : RowOp). o.key) l.ops))
