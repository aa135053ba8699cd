use Rattle.std.proofs.Common.{◌^◌, ◌∙◌, Some, sym, ap}
use Rattle.std.specs.Prelude.{unwrap_or}
use Rattle.kt_rowfiles.specs.Reading.{step_in}
use Rattle.kt_rowfiles.specs.Records.{steps_at}
use Rattle.kt_rowfiles.specs.Fitting.{step_fits, steps_fit}
use Rattle.kt_rowfiles.proofs.Fitting.{fit_next, fit_never, fit_over}
use Rattle.kt_rowfiles.proofs.undo_fit.steps_fit.Goals as goal

pub records-preserved : goal.records-preserved
records-preserved c =
    let x = c.record-item.result in
    let top = unwrap_or c.records.top (2 ^ 64) in
    let fits = ap (step_fits top (step_in x.now)) (sym c.as_ref.ensures.value) ∙ sym c.step_fits.ensures ∙ c.if-not-step_fits.false in
    fit_next c.args.records.now c.records.record-index top c.records.row c.apply.new.row (steps_fit (2 ^ 64) (steps_at c.args.records.now) (Some c.args.base)) x c.records-test.true c.record-item.is fits c.in_ok-apply.ensures.ok c.records.invariant

pub returns : goal.returns
returns c = fit_over c.args.records.now c.records.record-index (unwrap_or c.records.top (2 ^ 64)) c.records.row (steps_fit (2 ^ 64) (steps_at c.args.records.now) (Some c.args.base)) c.records-test.false c.records.invariant

pub returns-then-not-step_fits : goal.returns-then-not-step_fits
returns-then-not-step_fits c =
    let x = c.record-item.result in
    let top = unwrap_or c.records.top (2 ^ 64) in
    let never = ap (step_fits top (step_in x.now)) (sym c.as_ref.ensures.value) ∙ sym c.step_fits.ensures ∙ c.if-not-step_fits.true in
    fit_never c.args.records.now c.records.record-index top c.records.row (steps_fit (2 ^ 64) (steps_at c.args.records.now) (Some c.args.base)) x c.records-test.true c.record-item.is never c.records.invariant
