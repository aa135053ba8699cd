use Rattle.std.proofs.Common.{Some, subst}
use Rattle.std.proofs.lemmas.Bool.{OnTrue_at}
use Rattle.kt_rowfiles.specs.Flushing.{AllUndone, IsUndone}
use Rattle.kt_rowfiles.specs.Reading.{steps_in}
use Rattle.kt_merge.proofs.AllUndone.{undone_next, undone_over}
use Rattle.kt_merge.proofs.undoing.are_undone.Goals as goal

pub records-preserved : goal.records-preserved
records-preserved c =
    let one = subst (λ row. IsUndone c.record-item.result.change row) c.as_ref.ensures.value (OnTrue_at c.if-not-is_undone.false c.is_undone.ensures) in
    undone_next c.args.records.now c.records.record-index c.record-item.result c.records.row c.apply.new.row (AllUndone (steps_in c.args.records.now) (Some c.args.base)) c.records-test.true c.record-item.is one c.in_ok-apply.ensures.ok c.records.invariant

pub returns : goal.returns
returns c = undone_over c.args.records.now c.records.record-index c.records.row (AllUndone (steps_in c.args.records.now) (Some c.args.base)) c.records-test.false c.records.invariant
