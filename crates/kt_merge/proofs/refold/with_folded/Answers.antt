use Rattle.std.proofs.Common.{refl, subst}
use Rattle.kt_diskrowset.specs.declared.data.RowSetData.{RowSetData}
use Rattle.kt_merge.specs.Rewriting.{IsFoldedWhole}
use Rattle.kt_merge.proofs.Refolded.{refolded}
use Rattle.kt_merge.proofs.ToldInOrder.{told_in_order}
use Rattle.kt_merge.proofs.refold.with_folded.Goals as goal

pub returns-clause-same : goal.returns-clause-same
returns-clause-same c =
    let d = c.args.rowset in
    let e : RowSetData = record { number = d.number; base = c.in_ok-base.base; undo = c.in_ok-undo.undo; redo = c.in_ok-redo.redo; fresh = d.fresh } in
    record {
      number = refl;
      store = refolded d e c.in_ok-folded.folded c.in_ok-base.ensures.set c.in_ok-undo.ensures.rows c.in_ok-redo.ensures.rows refl (subst (λ b. IsFoldedWhole b d.undo d.redo c.in_ok-folded.folded) c.deref.ensures c.in_ok-folded.ensures.whole);
      fresh = c.requires.none;
      lead = λ h. c.in_ok-fit.ensures.lead c.if-not-fit.false;
    }

pub returns-clause-files : goal.returns-clause-files
returns-clause-files c = record { base = c.in_ok-base.ensures.number; undos = c.in_ok-undo.ensures.files; redos = c.in_ok-redo.ensures.files }

pub returns-clause-order : goal.returns-clause-order
returns-clause-order c =
    let d = c.args.rowset in
    let e : RowSetData = record { number = d.number; base = c.in_ok-base.base; undo = c.in_ok-undo.undo; redo = c.in_ok-redo.redo; fresh = d.fresh } in
    let whole = subst (λ b. IsFoldedWhole b d.undo d.redo c.in_ok-folded.folded) c.deref.ensures c.in_ok-folded.ensures.whole in
    told_in_order d e c.requires.none whole.fold (refolded d e c.in_ok-folded.folded c.in_ok-base.ensures.set c.in_ok-undo.ensures.rows c.in_ok-redo.ensures.rows refl whole)
