use Rattle.std.proofs.Common.{None}
use Rattle.std.proofs.lemmas.Bool.{OnTrue_at, OnFalse_at}
use Rattle.kt_merge.specs.Fitting.{AreFalling}
use Rattle.kt_merge.proofs.FitFiles.{fall_on, fall_back, fall_stops, fall_over}
use Rattle.kt_merge.proofs.fitting.are_falling.Goals as goal

pub returns-then-not-may_follow-clause-no : goal.returns-then-not-may_follow-clause-no
returns-then-not-may_follow-clause-no c = λ all.
    fall_stops c.args.undos.now c.undos.undo-index c.undo-item.result c.undos.top c.undos-test.true c.undo-item.is (AreFalling None c.args.undos.now) c.undos.invariant.back
    (λ under fits. OnFalse_at c.if-not-may_follow.true c.may_follow.ensures.no (under, fits)) all

pub undos-preserved : goal.undos-preserved
undos-preserved c =
    let here = OnTrue_at c.if-not-may_follow.false c.may_follow.ensures.yes in
    record {
      on = fall_on c.args.undos.now c.undos.undo-index c.undo-item.result c.undos.top c.undos-test.true c.undo-item.is (AreFalling None c.args.undos.now) here.0 c.may_follow.ensures.range here.1 c.undos.invariant.on;
      back = fall_back c.args.undos.now c.undos.undo-index c.undo-item.result c.undos.top c.undos-test.true c.undo-item.is (AreFalling None c.args.undos.now) c.undos.invariant.back;
    }

pub returns-clause-yes : goal.returns-clause-yes
returns-clause-yes c = fall_over c.args.undos.now c.undos.undo-index c.undos.top (AreFalling None c.args.undos.now) c.undos-test.false c.undos.invariant.on
