use Rattle.std.proofs.Common.{◌≡◌, ◌++◌, drop}
use Rattle.kt_history.specs.Stores.{after_steps}
use Rattle.kt_rowfiles.specs.Reading.{steps_in}
use Rattle.kt_rowfiles.specs.Taking.{spanned}
use Rattle.kt_rowfiles.proofs.taking.take_records.Given as goal

abbrev pub invariant-records : goal.invariant-records
invariant-records l = record {
  row : after_steps l.span.mark (steps_in (drop l.record-index l.records)) l.row ≡ after_steps l.span.mark (steps_in l.records) l.initial.row;
  steps : steps_in l.steps.items ++ spanned l.span (steps_in (drop l.record-index l.records)) ≡ steps_in l.initial.steps.items ++ spanned l.span (steps_in l.records);
}
