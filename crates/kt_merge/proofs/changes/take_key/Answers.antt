use Rattle.std.proofs.Common.{◌<◌, length, ◌∙◌, ◌++◌, None, inl, inr, sym, ap, refl, arith}
use Rattle.std.proofs.lemmas.List.{append-nil}
use Rattle.kt_history.specs.Stores.{Steps, after_steps}
use Rattle.kt_rowfiles.specs.Reading.{steps_in}
use Rattle.kt_rowfiles.specs.Taking.{spanned}
use Rattle.kt_merge.proofs.KeyChanges.{parts_below, parts_not_above, row_more, taken_more, none_to, all_taken, got, some_change}
use Rattle.kt_merge.proofs.changes.take_key.Goals as goal

pub count_below-start-requires : goal.count_below-start-requires
count_below-start-requires c = parts_below c.args.changes.now c.args.key.now c.requires

pub count_not_above-end-requires : goal.count_not_above-end-requires
count_not_above-end-requires c = parts_not_above c.args.changes.now c.args.key.now c.requires

pub changes-init : goal.changes-init
changes-init c = record {
  from = omega arith;
  upto = inl refl;
  row = sym (ap (λ (l : Steps). after_steps c.args.span.mark l None) (none_to c.args.changes.now c.args.span c.count_below-start.result));
  steps = sym (ap (λ (l : Steps). steps_in c.args.steps.now.items ++ spanned c.args.span l) (none_to c.args.changes.now c.args.span c.count_below-start.result) ∙ append-nil (steps_in c.args.steps.now.items));
}

-- each place is below the end, which is within the list
pub changes-preserved : goal.changes-preserved
changes-preserved c =
    let cs = c.args.changes.now in
    let low : c.changes.at < length cs = omega (arith, c.changes-test.true, c.count_not_above-end.ensures.bound) in
    let here = got cs c.changes.at some_change low in
    record {
      from = omega (arith, c.changes.invariant.from);
      upto = inr (omega (arith, c.changes-test.true));
      row = row_more cs c.args.span c.count_below-start.result c.changes.at some_change c.changes.row c.take_at.new.row c.changes.invariant.from low c.changes.invariant.row (c.in_ok-take_at.ensures.row _ here);
      steps = taken_more cs c.args.span c.count_below-start.result c.changes.at some_change (steps_in c.args.steps.now.items) (steps_in c.changes.steps.items) (steps_in c.take_at.new.steps.items) c.changes.invariant.from low c.changes.invariant.steps (c.in_ok-take_at.ensures.steps _ here);
    }

pub returns-clause-row : goal.returns-clause-row
returns-clause-row c =
    c.changes.invariant.row
    ∙ ap (λ (l : Steps). after_steps c.args.span.mark l None) (all_taken c.args.changes.now c.args.key.now c.args.span c.count_below-start.result c.count_not_above-end.result c.count_not_above-end.ensures.bound c.count_below-start.ensures.parts c.count_not_above-end.ensures.parts c.changes.at c.changes.invariant.from c.changes.invariant.upto c.changes-test.false)

pub returns-clause-steps : goal.returns-clause-steps
returns-clause-steps c =
    c.changes.invariant.steps
    ∙ ap (λ (l : Steps). steps_in c.args.steps.now.items ++ spanned c.args.span l) (all_taken c.args.changes.now c.args.key.now c.args.span c.count_below-start.result c.count_not_above-end.result c.count_not_above-end.ensures.bound c.count_below-start.ensures.parts c.count_not_above-end.ensures.parts c.changes.at c.changes.invariant.from c.changes.invariant.upto c.changes-test.false)
