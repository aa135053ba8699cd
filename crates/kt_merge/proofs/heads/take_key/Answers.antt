use Rattle.kt_rowfiles.specs.Reading.{steps_in}
use Rattle.std.proofs.Common.{refl, sym}
use Rattle.std.proofs.lemmas.List.{append-nil}
use Rattle.kt_merge.proofs.HeadsTaken.{stands_at, row_more, steps_more, row_over, steps_over}
use Rattle.kt_merge.proofs.heads.take_key.Goals as goal

pub heads-init : goal.heads-init
heads-init c = record { row = refl; steps = sym (append-nil (steps_in c.args.steps.now.items)) }

pub take-requires : goal.take-requires
take-requires c = stands_at c.args.heads.now c.heads.head-index c.head-item.result c.requires c.heads-test.true c.head-item.is

pub heads-preserved : goal.heads-preserved
heads-preserved c = record {
  row = row_more c.args.span c.args.key.now c.args.heads.now c.heads.head-index c.head-item.result c.heads.row c.take.new.row c.heads-test.true c.head-item.is c.heads.invariant.row c.in_ok-take.ensures.row;
  steps = steps_more c.args.span c.args.key.now c.args.heads.now c.heads.head-index c.head-item.result (steps_in c.args.steps.now.items) (steps_in c.heads.steps.items) (steps_in c.take.new.steps.items) c.heads-test.true c.head-item.is c.heads.invariant.steps c.in_ok-take.ensures.steps;
}

pub returns-clause-row : goal.returns-clause-row
returns-clause-row c = row_over c.args.span c.args.key.now c.args.heads.now c.heads.head-index c.heads.row c.heads-test.false c.heads.invariant.row

pub returns-clause-steps : goal.returns-clause-steps
returns-clause-steps c = steps_over c.args.span c.args.key.now c.args.heads.now c.heads.head-index (steps_in c.args.steps.now.items) (steps_in c.heads.steps.items) c.heads-test.false c.heads.invariant.steps
