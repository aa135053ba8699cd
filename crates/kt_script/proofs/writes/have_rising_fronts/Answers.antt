use Rattle.std.proofs.Common.{◌<◌, List, ◌∷◌, length, map, sym, subst, arith}
use Rattle.std.proofs.lemmas.Bool.Decides.{nat_tests}
use Rattle.std.proofs.lemmas.List.{drop_all}
use Rattle.kt_history.specs.declared.operation.RowOp.{RowOp}
use Rattle.kt_script.proofs.RisingKeys.{Rise, IsFrontBelow, first_key, fronts_apart}
use Rattle.kt_script.proofs.writes.have_rising_fronts.Goals as goal

pub ops-init : goal.ops-init
ops-init c =
    let some : 0 < length c.args.ops.now = grind (arith, nat_tests) in
    (c.key.result.now, c.in-Some.ensures, first_key IsFrontBelow c.args.ops.now c.at.result c.key.result.now some c.at.ensures c.key.ensures)

pub returns : goal.returns
returns c = λ h.
    let all = c.ops.invariant in
    fronts_apart _ (all.2 (subst (λ (os : List RowOp). Rise IsFrontBelow (all.0 ∷ map (λ (o : RowOp). o.key) os)) (sym (drop_all c.ops.at c.args.ops.now (omega arith))) tt))
