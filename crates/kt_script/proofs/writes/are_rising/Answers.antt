use Rattle.std.proofs.Common.{◌<◌, List, ◌∷◌, length, map, sym, subst, ◌∙◌, arith}
use Rattle.std.proofs.lemmas.Bool.Decides.{nat_tests}
use Rattle.std.proofs.lemmas.List.{drop_all}
use Rattle.kt_history.specs.declared.operation.RowOp.{RowOp}
use Rattle.kt_script.proofs.RisingKeys.{Rise, IsBelow, less, first_key, next_key, rising_apart}
use Rattle.kt_script.proofs.writes.are_rising.Goals as goal

pub ops-init : goal.ops-init
ops-init c =
    let some : 0 < length c.args.ops.now = grind (arith, nat_tests) in
    first_key IsBelow c.args.ops.now c.at-first.result c.key-last.result.now some c.at-first.ensures c.key-last.ensures

pub ops-preserved : goal.ops-preserved
ops-preserved c =
    let lt : c.ops.at < length c.args.ops.now = omega arith in
    next_key IsBelow c.args.ops.now c.ops.at c.ops.last.now c.at-op.result c.key-key.result.now lt c.at-op.ensures c.key-key.ensures (less _ (sym c.is_below.ensures ∙ c.if-not-is_below.false)) c.ops.invariant

pub returns : goal.returns
returns c = λ h. rising_apart _ (c.ops.invariant (subst (λ (os : List RowOp). Rise IsBelow (c.ops.last.now ∷ map (λ (o : RowOp). o.key) os)) (sym (drop_all c.ops.at c.args.ops.now (omega arith))) tt))
