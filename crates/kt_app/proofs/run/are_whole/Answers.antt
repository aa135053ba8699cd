use Rattle.std.proofs.Common.{subst}
use Rattle.std.specs.Prelude.{All}
use Rattle.std.proofs.lemmas.List.{take_all}
use Rattle.kt_app.specs.Played.{IsWhole}
use Rattle.kt_app.proofs.Texts.{all_more}
use Rattle.kt_app.proofs.run.are_whole.Goals as goal

pub loop-end-preserved : goal.loop-end-preserved
loop-end-preserved c =
    all_more IsWhole c.args.ends.now c.loop-end.end-index c.end-item.result c.loop-end-test.true c.loop-end.invariant
    (subst IsWhole c.end-item.is (c.is_lost.ensures c.if-is_lost.false))

pub returns : goal.returns
returns c = λ _. subst (All IsWhole) (take_all c.loop-end.end-index c.args.ends.now c.loop-end-test.false) c.loop-end.invariant
