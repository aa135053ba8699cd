use Rattle.kt_judge.proofs.Dated.{after_next}
use Rattle.kt_judge.proofs.versions.last_row_in.Goals as goal

pub loop-at-preserved : goal.loop-at-preserved
loop-at-preserved c = after_next c.args.list.now c.loop-at.at c.index-list-at.result _ _ c.loop-at-test.true c.loop-at.invariant c.in_ok-there-2.ensures
