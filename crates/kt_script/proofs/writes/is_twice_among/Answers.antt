use Rattle.std.proofs.Common.{◌∙◌, ◌+◌, ◌<◌, List, length, drop, map, sym, arith}
use Rattle.std.proofs.lemmas.List.{at_drop_all}
use Rattle.kt_history.specs.declared.operation.RowOp.{RowOp}
use Rattle.kt_script.specs.Writes.{twice}
use Rattle.kt_script.proofs.OpWords.{next_one, twice_more}
use Rattle.kt_script.proofs.writes.is_twice_among.Goals as goal

pub returns-then-has_key : goal.returns-then-has_key
returns-then-has_key c =
    let lt : c.ops.at < length c.args.ops.now = omega arith in
    let next = next_one c.args.ops.now c.ops.at c.at-op.result lt c.at-op.ensures in
    sym (twice_more (drop c.ops.at c.args.ops.now) c.at-op.result (drop (c.ops.at + 1) c.args.ops.now) c.key.result.now _ next c.key.ensures (sym c.has_key.ensures ∙ c.if-has_key.true)) ∙ c.ops.invariant

pub ops-preserved : goal.ops-preserved
ops-preserved c =
    let lt : c.ops.at < length c.args.ops.now = omega arith in
    let next = next_one c.args.ops.now c.ops.at c.at-op.result lt c.at-op.ensures in
    sym (twice_more (drop c.ops.at c.args.ops.now) c.at-op.result (drop (c.ops.at + 1) c.args.ops.now) c.key.result.now _ next c.key.ensures (sym c.has_key.ensures ∙ c.if-has_key.false)) ∙ c.ops.invariant

pub returns : goal.returns
returns c = sym (at_drop_all (λ (os : List RowOp). twice (map (λ (o : RowOp). o.key) os)) c.args.ops.now c.ops.at (omega arith)) ∙ c.ops.invariant
