use Rattle.std.proofs.Common.{ap, arith, subst}
use Rattle.kt_history.specs.declared.change.Change.TheVariants.{Ins}
use Rattle.kt_history.specs.Rows.{Rows}
use Rattle.std.proofs.lemmas.List.{take_all}
use Rattle.kt_judge.specs.Bare.{HasRows}
use Rattle.kt_judge.proofs.Barely.{bare_has, has_more}
use Rattle.kt_judge.proofs.opening.put_rows.Goals as goal

pub loop-key-init : goal.loop-key-init
loop-key-init c = bare_has c.args.entries.now.items c.requires

pub returns : goal.returns
returns c = subst (λ (rows : Rows). HasRows rows c.loop-key.entries.items) (take_all c.loop-key.key-index c.args.rows.now (omega arith)) c.loop-key.invariant

pub loop-key-preserved : goal.loop-key-preserved
loop-key-preserved c = has_more c.args.rows.now c.loop-key.key-index c.loop-key-item.result c.loop-key-item.result _ _ c.loop-key.entries.items c.put_change.new.entries.items c.loop-key-test.true c.loop-key-item.is c.as_slice.ensures (ap Ins c.in_ok-copy.ensures) c.loop-key.invariant c.in_ok-put_change.ensures
