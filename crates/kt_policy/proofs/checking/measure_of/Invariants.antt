use Rattle.kt_policy.specs.Gain.{is_in}
use Rattle.kt_policy.proofs.Ends.{Measured}
use Rattle.kt_policy.proofs.checking.measure_of.Given as goal

abbrev pub invariant-loop-candidate : goal.invariant-loop-candidate
invariant-loop-candidate l = Measured (is_in l.set) l.list l.candidate-index l.cost l.widths l.low l.high
