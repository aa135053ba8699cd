use Rattle.std.proofs.Common.{◌≡◌, drop}
use Rattle.kt_loadlaws.specs.Summary.{all_counted}
use Rattle.kt_app.specs.Loaded.{counts_of}
use Rattle.kt_app.proofs.load.Tally.with_outcomes.Given as goal

abbrev pub invariant-loop-outcome : goal.invariant-loop-outcome
invariant-loop-outcome l = all_counted (counts_of l.tally) (drop l.outcome-index l.outcomes) ≡ all_counted (counts_of l.fn.self) l.outcomes
