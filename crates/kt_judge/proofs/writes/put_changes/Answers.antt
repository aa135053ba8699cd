use Rattle.std.proofs.Common.{arith, subst}
use Rattle.kt_history.specs.Rows.{Changes}
use Rattle.kt_judge.specs.Tables.{Shows, with_changes}
use Rattle.kt_judge.proofs.Shown.{shows_more}
use Rattle.std.proofs.lemmas.List.{take_all}
use Rattle.kt_judge.proofs.writes.put_changes.Goals as goal

pub loop-key-preserved : goal.loop-key-preserved
loop-key-preserved c =
    let put = c.in_ok-put_change.ensures in
    record {
      table = put.table;
      up_to = put.up_to;
      rows = λ rows shows. shows_more c.args.ts c.loop-key.entries.items c.put_change.new.entries.items c.args.changes.now c.loop-key.key-index c.loop-key-item.result c.loop-key-item.result c.as_slice.result.now rows c.loop-key-test.true c.loop-key-item.is c.as_slice.ensures put (c.loop-key.invariant.rows rows shows);
    }

pub returns-clause-rows : goal.returns-clause-rows
returns-clause-rows c = λ rows shows. subst (λ (cs : Changes). Shows c.loop-key.entries.items (with_changes c.args.ts cs rows)) (take_all c.loop-key.key-index c.args.changes.now (omega arith)) (c.loop-key.invariant.rows rows shows)
