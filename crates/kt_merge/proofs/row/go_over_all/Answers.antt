use Rattle.std.proofs.Common.{reverse}
use Rattle.kt_rowfiles.specs.Reading.{steps_in}
use Rattle.kt_rowfiles.specs.Flushing.{after_all, undone}
use Rattle.kt_merge.proofs.Going.{row_next, undos_next, row_over, undos_over}
use Rattle.kt_merge.proofs.row.go_over_all.Goals as goal

pub steps-preserved : goal.steps-preserved
steps-preserved c = record {
  row = row_next c.args.mark c.args.steps.now c.steps.step-index c.steps.row c.step-item.result c.go_over.new.row (after_all (steps_in c.args.steps.now) c.args.row.now) c.steps-test.true c.step-item.is c.in_ok-go_over.ensures.row c.steps.invariant.row;
  undos = undos_next c.args.mark c.args.steps.now c.steps.step-index c.steps.row c.step-item.result c.go_over.new.row (reverse (steps_in c.steps.undos.items)) (reverse (steps_in c.go_over.new.undos.items)) (undone c.args.mark (steps_in c.args.steps.now) c.args.row.now (reverse (steps_in c.args.undos.now.items))) c.steps-test.true c.step-item.is c.in_ok-go_over.ensures.row c.in_ok-go_over.ensures.undos c.steps.invariant.undos;
  ordinals = λ at_first. c.in_ok-go_over.ensures.ordinals (c.steps.invariant.ordinals at_first);
}

pub returns-clause-row : goal.returns-clause-row
returns-clause-row c = row_over c.args.mark c.args.steps.now c.steps.step-index c.steps.row (after_all (steps_in c.args.steps.now) c.args.row.now) c.steps-test.false c.steps.invariant.row

pub returns-clause-undos : goal.returns-clause-undos
returns-clause-undos c = undos_over c.args.mark c.args.steps.now c.steps.step-index c.steps.row (reverse (steps_in c.steps.undos.items)) (undone c.args.mark (steps_in c.args.steps.now) c.args.row.now (reverse (steps_in c.args.undos.now.items))) c.steps-test.false c.steps.invariant.undos

pub returns-clause-ordinals : goal.returns-clause-ordinals
returns-clause-ordinals c = c.steps.invariant.ordinals
