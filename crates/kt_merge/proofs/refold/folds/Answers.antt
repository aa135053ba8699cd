use Rattle.std.proofs.Common.{subst}
use Rattle.std.proofs.lemmas.Bool.{OnTrue_at, OnTrue_from}
use Rattle.std.proofs.lemmas.Result.{IfOk-weaker}
use Rattle.kt_history.specs.Rows.{Row}
use Rattle.kt_rowfiles.specs.Flushing.{AllUndone}
use Rattle.kt_rowfiles.specs.Reading.{steps_in}
use Rattle.std.proofs.Common.{Some}
use Rattle.kt_merge.specs.Rewriting.{FoldsTo}
use Rattle.kt_merge.proofs.refold.folds.Goals as goal

pub returns : goal.returns
returns c =
    let undone = subst (λ (r : Row). AllUndone (steps_in c.args.redos.now) (Some r)) c.in_ok-row.ensures (OnTrue_at c.if-not-undone.false c.in_ok-undone.ensures) in
    IfOk-weaker c.fold_into.result _ _
    (λ b told. OnTrue_from b _ (λ yes. record {
      to = subst (λ (r : Row). FoldsTo c.args.columns.now r (steps_in c.args.redos.now)) c.in_ok-row-2.ensures (OnTrue_at yes told);
      rises = OnTrue_at c.if-not-are_rising.false c.are_rising.ensures;
      undone = undone;
      below = OnTrue_at c.if-not-lie_below.false c.lie_below.ensures;
    })) c.fold_into.ensures
