use Rattle.std.proofs.Common.{◌≡◌, ◌<◌, List, [], ◌∷◌, length, map, false, refl, arith}
use Rattle.std.proofs.lemmas.Bool.Decides.{nat_tests}
use Rattle.kt_history.specs.declared.operation.RowOp.{RowOp}
use Rattle.kt_script.specs.Writes.{twice}
use Rattle.kt_script.proofs.writes.is_twice.Goals as goal

one_key : (ops : List RowOp) → length ops < 2 → false ≡ twice (map (λ (o : RowOp). o.key) ops)
one_key [] lt = refl
one_key (o ∷ []) lt = refl
one_key (o ∷ p ∷ ops) lt = absurd (omega (arith, lt))

pub returns-then-few : goal.returns-then-few
returns-then-few c = one_key c.args.ops.now (grind (arith, nat_tests))
