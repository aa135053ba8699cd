use Rattle.std.proofs.Common.{List, ◌-◌, arith, subst}
use Rattle.kt_history.specs.declared.operation.RowOp.{RowOp}
use Rattle.kt_history.specs.Operations.{changes_on}
use Rattle.kt_judge.specs.Tables.{Shows, with_changes}
use Rattle.kt_judge.proofs.Shown.{shows_more_ops}
use Rattle.std.proofs.lemmas.List.{take_all}
use Rattle.kt_judge.proofs.writes.put_ops.Goals as goal

pub ops-preserved : goal.ops-preserved
ops-preserved c =
    record {
      table = c.in_ok-put_op.ensures.table;
      up_to = c.in_ok-put_op.ensures.up_to;
      rows = λ rows shows. shows_more_ops c.args.fill.now c.args.ts c.ops.entries.items c.put_op.new.entries.items c.args.ops.now c.ops.at c.at-op.result c.at-op.result rows c.requires.some (omega arith) c.at-op.ensures c.in_ok-put_op.ensures.rows (c.ops.invariant.rows rows shows);
    }

pub returns-clause-rows : goal.returns-clause-rows
returns-clause-rows c = λ rows shows. subst (λ (ops : List RowOp). Shows c.ops.entries.items (with_changes c.args.ts (changes_on c.args.fill.now (rows (c.args.ts - 1)) ops) rows)) (take_all c.ops.at c.args.ops.now (omega arith)) (c.ops.invariant.rows rows shows)
