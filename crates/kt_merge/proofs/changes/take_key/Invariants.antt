use Rattle.std.proofs.Common.{◌≡◌, ◌≤◌, ◌⊎◌, ◌++◌, None}
use Rattle.kt_history.specs.Stores.{after_steps}
use Rattle.kt_rowfiles.specs.Reading.{steps_in}
use Rattle.kt_rowfiles.specs.Taking.{spanned}
use Rattle.kt_merge.proofs.KeyChanges.{steps_to}
use Rattle.kt_merge.proofs.changes.take_key.Given as goal

abbrev pub invariant-changes : goal.invariant-changes
invariant-changes l = record {
  from : l.start ≤ l.at;
  upto : (l.at ≡ l.start) ⊎ (l.at ≤ l.end);
  row : l.row ≡ after_steps l.span.mark (steps_to l.changes l.span l.start l.at) None;
  steps : steps_in l.steps.items ≡ steps_in l.initial.steps.items ++ spanned l.span (steps_to l.changes l.span l.start l.at);
}
